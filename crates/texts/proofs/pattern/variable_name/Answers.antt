-- Each variable adds its name if that is new, and no other token adds one.
use Rattle.std.proofs.Common.{◌∙◌, [], ap, arith, sym}
use Rattle.texts.specs.Tokens.{is_end, tokens_from}
use Rattle.texts.specs.PatternText.{name_numbered, names_among}
use Rattle.texts.specs.PatternSteps.{names_in}
use Rattle.texts.proofs.Lexing.{fewer}
use Rattle.texts.proofs.Scanning.{names_on, names_stop, names_same, names_variable}
use Rattle.texts.proofs.pattern.variable_name.Goals as goal

pub returns-in-End : goal.returns-in-End
returns-in-End c = c.name.ensures ∙ ap (λ ns. name_numbered ns c.args.number) (sym (c.loop-names.invariant ∙ names_stop c.loop-names.reader (names_in c.loop-names.names) c.in-End.ensures.token))

pub loop-names-smaller-in-Variable : goal.loop-names-smaller-in-Variable
loop-names-smaller-in-Variable c =
    let v = names_variable c.in-Variable.constructor c.in-Variable.name [] in
    fewer c.loop-names.reader c.next.new.self c.next.ensures.same (omega (arith, c.next.ensures.moved)) (ap is_end (sym c.in-Variable.ensures.token) ∙ v.1)

pub loop-names-preserved-in-Variable : goal.loop-names-preserved-in-Variable
loop-names-preserved-in-Variable c =
    let ns = names_in c.loop-names.names in
    let v = names_variable c.in-Variable.constructor c.in-Variable.name ns in
    c.loop-names.invariant ∙ names_on c.loop-names.reader c.next.new.self _ ns c.in-Variable.ensures.token c.next.ensures.same c.next.ensures.moved v.1
    ∙ ap (λ ms. names_among ms (tokens_from c.next.new.self.text.now c.next.new.self.at)) (v.0 ∙ sym c.number-number.ensures.names)

pub loop-names-smaller : goal.loop-names-smaller
loop-names-smaller c =
    let v = names_same c.next.result [] c.in_default.not-Variable c.in_default.not-End in
    fewer c.loop-names.reader c.next.new.self c.next.ensures.same (omega (arith, c.next.ensures.moved)) (ap is_end (sym c.next.ensures.token) ∙ v.1)

pub loop-names-preserved : goal.loop-names-preserved
loop-names-preserved c =
    let ns = names_in c.loop-names.names in
    let v = names_same c.next.result ns c.in_default.not-Variable c.in_default.not-End in
    c.loop-names.invariant ∙ names_on c.loop-names.reader c.next.new.self _ ns c.next.ensures.token c.next.ensures.same c.next.ensures.moved v.1
    ∙ ap (λ ms. names_among ms (tokens_from c.next.new.self.text.now c.next.new.self.at)) v.0
