-- Each way through an iteration is one token of the text, or a word and the sign behind it.
use Rattle.std.proofs.Common.{◌≡◌, ◌∙◌, true, false, Err, ap, arith, sym}
use Rattle.std.proofs.lemmas.Result.{err_from_is_err_and}
use Rattle.texts.specs.Tokens.{is_end, next_token}
use Rattle.texts.specs.TreeText.{is_open}
use Rattle.texts.proofs.Lexing.{fewer, moves}
use Rattle.texts.proofs.TreeSteps.{quoted_on, quoted_fault, sign_on, sign_at_fault, done, end_at_fault, no_node, word_alone, word_fault, word_on}
use Rattle.texts.proofs.tree.reading.TreeReader.next_record.Goals as goal

pub returns-then-not-opens : goal.returns-then-not-opens
returns-then-not-opens c rs l =
    let e = c.next-token.ensures in
    let v = c.loop-name.invariant in
    let h : is_open (next_token c.next-token.new.self.text.now c.next-token.new.self.at).what ≡ false = cc in
    v.same rs l
    ∙ word_alone c.loop-name.self c.next-token.new.self c.start-start.result e.same (c.start-start.ensures ∙ e.start) e.moved rs (l ∙ sym v.count) c.in-Word.name.now c.in-Word.ensures.token h
    ∙ ap Err (sym c.refusal.ensures)

pub returns-in_err-record-in-Word : goal.returns-in_err-record-in-Word
returns-in_err-record-in-Word c =
    let e = c.next-token.ensures in
    let v = c.loop-name.invariant in
    let h : is_open (next_token c.next-token.new.self.text.now c.next-token.new.self.at).what ≡ true = cc in
    let f = err_from_is_err_and c.from_residual.result c.from_residual.ensures.1 in
    rw (f.1, f.2)
    (λ rs l.
    v.same rs l
    ∙ word_fault c.loop-name.self c.next-token.new.self c.start-start.result e.same (c.start-start.ensures ∙ e.start) e.moved rs (l ∙ sym v.count) c.in-Word.name.now c.in-Word.ensures.token c.opens.new.reader h c.opens.ensures.same c.opens.ensures.moved _ (sym c.node.ensures ∙ c.in_err-record-in-Word.was))

pub returns-in-Word : goal.returns-in-Word
returns-in-Word c =
    let e = c.next-token.ensures in
    let v = c.loop-name.invariant in
    let o = c.opens.ensures in
    let h : is_open (next_token c.next-token.new.self.text.now c.next-token.new.self.at).what ≡ true = cc in
    let m = moves c.next-token.new.self.text.now c.next-token.new.self.at c.next-token.new.self.within in
    let f = fewer c.loop-name.self.reader c.opens.new.reader (o.same ∙ e.same) (omega (arith, m.onward, o.moved, e.moved)) (ap is_end (sym c.in-Word.ensures.token)) in (
      λ rs l.
          v.same rs l
          ∙ word_on c.loop-name.self c.next-token.new.self c.start-start.result e.same (c.start-start.ensures ∙ e.start) e.moved rs (l ∙ sym v.count) c.in-Word.name.now c.in-Word.ensures.token c.opens.new.reader h o.same o.moved c.in_ok-record-in-Word.record (sym c.node.ensures ∙ c.in_ok-record-in-Word.was),
      omega arith,
      omega (arith, v.left, f),
    )

pub returns-in_err-record-in-Quoted : goal.returns-in_err-record-in-Quoted
returns-in_err-record-in-Quoted c =
    let e = c.next-token.ensures in
    let v = c.loop-name.invariant in
    let f = err_from_is_err_and c.from_residual-in_err-record-in-Quoted.result c.from_residual-in_err-record-in-Quoted.ensures.1 in
    rw (f.1, f.2)
    (λ rs l.
    v.same rs l
    ∙ quoted_fault c.loop-name.self c.next-token.new.self c.start-start.result e.same (c.start-start.ensures ∙ e.start) e.moved rs (l ∙ sym v.count) c.in-Quoted.name.now _ c.in-Quoted.ensures.token (sym c.node-in-Quoted.ensures ∙ c.in_err-record-in-Quoted.was))

pub returns-in-Quoted : goal.returns-in-Quoted
returns-in-Quoted c =
    let e = c.next-token.ensures in
    let v = c.loop-name.invariant in
    let f = fewer c.loop-name.self.reader c.next-token.new.self e.same (omega (arith, e.moved)) (ap is_end (sym c.in-Quoted.ensures.token)) in (
      λ rs l.
          v.same rs l
          ∙ quoted_on c.loop-name.self c.next-token.new.self c.start-start.result e.same (c.start-start.ensures ∙ e.start) e.moved rs (l ∙ sym v.count) c.in-Quoted.name.now c.in_ok-record-in-Quoted.record c.in-Quoted.ensures.token (sym c.node-in-Quoted.ensures ∙ c.in_ok-record-in-Quoted.was),
      omega arith,
      omega (arith, v.left, f),
    )

pub returns-in_err-check_sign-in-Sign : goal.returns-in_err-check_sign-in-Sign
returns-in_err-check_sign-in-Sign c =
    let e = c.next-token.ensures in
    let v = c.loop-name.invariant in
    let q = c.in_err-check_sign-in-Sign.ensures in
    let f = err_from_is_err_and c.from_residual-in_err-check_sign-in-Sign.result c.from_residual-in_err-check_sign-in-Sign.ensures.1 in
    rw (f.1, f.2)
    (λ rs l.
    v.same rs l
    ∙ sign_at_fault c.loop-name.self c.next-token.new.self c.start-start.result e.same (c.start-start.ensures ∙ e.start) e.moved rs (l ∙ sym v.count) c.in-Sign.byte q.0 c.in-Sign.ensures.token q.1
    ∙ ap Err (sym q.2))

pub loop-name-smaller : goal.loop-name-smaller
loop-name-smaller c =
    let e = c.next-token.ensures in
    fewer c.loop-name.self.reader c.next-token.new.self e.same (omega (arith, e.moved)) (ap is_end (sym c.in-Sign.ensures.token))

pub loop-name-preserved : goal.loop-name-preserved
loop-name-preserved c =
    let e = c.next-token.ensures in
    let v = c.loop-name.invariant in
    let f = fewer c.loop-name.self.reader c.next-token.new.self e.same (omega (arith, e.moved)) (ap is_end (sym c.in-Sign.ensures.token)) in
    record {
      same = λ rs l.
          v.same rs l
          ∙ sign_on c.loop-name.self c.next-token.new.self c.start-start.result e.same (c.start-start.ensures ∙ e.start) e.moved rs (l ∙ sym v.count) c.in-Sign.byte c.in-Sign.ensures.token c.in_ok-check_sign-in-Sign.ensures.0;
      count = v.count;
      left = omega (arith, v.left, f);
    }

pub returns-in_err-check_end-in-End : goal.returns-in_err-check_end-in-End
returns-in_err-check_end-in-End c =
    let e = c.next-token.ensures in
    let v = c.loop-name.invariant in
    let q = c.in_err-check_end-in-End.ensures in
    let f = err_from_is_err_and c.from_residual-in_err-check_end-in-End.result c.from_residual-in_err-check_end-in-End.ensures.1 in
    rw (f.1, f.2)
    (λ rs l.
    v.same rs l
    ∙ end_at_fault c.loop-name.self c.next-token.new.self c.start-start.result e.same (c.start-start.ensures ∙ e.start) e.moved rs (l ∙ sym v.count) q.0 c.in-End.ensures.token q.1
    ∙ ap Err (sym q.2))

pub returns-in-End : goal.returns-in-End
returns-in-End c =
    let e = c.next-token.ensures in
    let v = c.loop-name.invariant in
    (λ rs l. v.same rs l ∙ done c.loop-name.self c.next-token.new.self c.start-start.result e.same (c.start-start.ensures ∙ e.start) e.moved rs (l ∙ sym v.count) c.in-End.ensures.token c.in_ok-check_end-in-End.ensures, v.count)

pub returns-in-Variable : goal.returns-in-Variable
returns-in-Variable c rs l =
    let e = c.next-token.ensures in
    let v = c.loop-name.invariant in
    v.same rs l
    ∙ no_node c.loop-name.self c.next-token.new.self c.start-start.result e.same (c.start-start.ensures ∙ e.start) e.moved rs (l ∙ sym v.count) c.next-token.result e.token c.in-Variable.is
    ∙ ap Err (sym c.refusal-in-Variable.ensures)
