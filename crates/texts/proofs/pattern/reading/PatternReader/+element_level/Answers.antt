-- Each element leaves the answer as it was, and so do the elements of a level.
use Rattle.std.proofs.Common.{◌≡◌, ◌∙◌, ◌∷◌, ap, arith, length, refl, sym}
use Rattle.std.proofs.lemmas.Result.{err_from_is_err_and}
use Rattle.texts.specs.declared.reader.Reader.{Reader}
use Rattle.texts.specs.declared.pattern.reading.PatternReader.{PatternReader}
use Rattle.texts.specs.Tokens.{shape, is_end}
use Rattle.texts.specs.PatternSteps.{stops}
use Rattle.texts.proofs.Lexing.{moves}
use Rattle.texts.proofs.Scanning.{leafy}
use Rattle.texts.proofs.Grouping.{onward, onward_on, forward, too_deep, group_full, opens, grouped, no_leaf, leaf_put}
use Rattle.texts.proofs.pattern.reading.PatternReader.+element_level.Goals as goal

pub element-returns-then-depth-ge-MAX_GROUPS : goal.element-returns-then-depth-ge-MAX_GROUPS
element-returns-then-depth-ge-MAX_GROUPS t c =
    let p = c.args.self.now in
    let e = c.next-token.ensures in
    let k = c.in-GroupOpen.ensures.token in
    record {
      onward = onward p c.next-token.new.self e.same e.start e.moved _ refl refl;
      forward = forward p c.next-token.new.self e.same e.start e.moved (ap is_end (sym k));
      went = too_deep p c.next-token.new.self e.same e.start e.moved c.args.depth k (omega arith);
    }

pub element-returns-in_err-push : goal.element-returns-in_err-push
element-returns-in_err-push t c =
    let p = c.args.self.now in
    let e = c.next-token.ensures in
    let k = c.in-GroupOpen.ensures.token in
    let q : PatternReader = record { book = p.book; reader = c.next-token.new.self; row = c.push.new.self; names = p.names } in
    let f = err_from_is_err_and c.from_residual.result c.from_residual.ensures.1 in
    rw (f.1, f.2) (record {
      onward = onward p c.next-token.new.self e.same e.start e.moved q refl refl;
      forward = forward p c.next-token.new.self e.same e.start e.moved (ap is_end (sym k));
      went = group_full p c.next-token.new.self e.same e.start e.moved c.args.depth k _ (omega arith) c.in_err-push.ensures;
    })

pub element-level-requires : goal.element-level-requires
element-level-requires t c =
    let p = c.args.self.now in
    let e = c.next-token.ensures in
    let m = moves p.reader.text.now p.reader.at p.reader.within in
    let f = m.forward (ap is_end (sym c.in-GroupOpen.ensures.token)) in
    let long : length c.next-token.new.self.text.now ≡ length p.reader.text.now = ap (λ x. length x.now) e.same in
    (omega (arith, m.inner, e.moved), omega arith)

pub element-returns-in_err-level : goal.element-returns-in_err-level
element-returns-in_err-level t c =
    let p = c.args.self.now in
    let e = c.next-token.ensures in
    let k = c.in-GroupOpen.ensures.token in
    let q : PatternReader = record { book = p.book; reader = c.next-token.new.self; row = c.push.new.self; names = p.names } in
    let f = err_from_is_err_and c.from_residual-in_err-level.result c.from_residual-in_err-level.ensures.1 in
    let on = onward_on p q c.level.new.self (onward p c.next-token.new.self e.same e.start e.moved q refl refl) c.level.ensures.onward in
    rw (f.1, f.2) (record {
      onward = on;
      forward = let l = forward p c.next-token.new.self e.same e.start e.moved (ap is_end (sym k)) in omega (arith, c.level.ensures.onward.at);
      went = λ gs l. opens p c.next-token.new.self e.same e.start e.moved c.args.depth k q refl refl refl (omega arith) c.in_ok-push.ensures gs l ∙ c.in_err-level.ensures.went (p.row.row.count ∷ gs) (omega arith);
    })

pub element-returns-in-GroupOpen : goal.element-returns-in-GroupOpen
element-returns-in-GroupOpen t c =
    let p = c.args.self.now in
    let e = c.next-token.ensures in
    let k = c.in-GroupOpen.ensures.token in
    let q : PatternReader = record { book = p.book; reader = c.next-token.new.self; row = c.push.new.self; names = p.names } in
    let on = onward_on p q c.level.new.self (onward p c.next-token.new.self e.same e.start e.moved q refl refl) c.level.ensures.onward in
    record {
      onward = onward_on p c.level.new.self c.close.new.self on c.close.ensures.onward;
      forward = let l = forward p c.next-token.new.self e.same e.start e.moved (ap is_end (sym k)) in omega (arith, c.level.ensures.onward.at, c.close.ensures.onward.at);
      went = grouped p c.next-token.new.self e.same e.start e.moved c.args.depth k q c.level.new.self c.close.new.self refl refl refl (omega arith) c.in_ok-push.ensures c.in_ok-level.ensures.went c.close.result c.count-group.result c.count-group.ensures c.close.ensures.shut;
    }

pub element-returns-in_err-element : goal.element-returns-in_err-element
element-returns-in_err-element t c =
    let p = c.args.self.now in
    let e = c.next-token.ensures in
    let o = c.leaf.ensures.others in
    let leaf = leafy c.next-token.result (ap stops e.token ∙ c.requires.go) c.in_default.not-GroupOpen in
    let f = err_from_is_err_and c.from_residual-in_err-element.result c.from_residual-in_err-element.ensures.1 in
    rw (f.1, f.2) (record {
      onward = onward p c.next-token.new.self e.same e.start e.moved c.leaf.new.self o.book o.reader;
      forward = let l = forward p c.next-token.new.self e.same e.start e.moved (ap is_end (sym e.token) ∙ leaf.goes) in omega (arith, ap (λ (r : Reader). r.at) o.reader);
      went = no_leaf p c.next-token.new.self e.same e.start e.moved c.args.depth (shape c.next-token.result) e.token leaf c.leaf.new.self _ o.reader (sym c.leaf.ensures.value ∙ c.in_err-element.was);
    })

pub element-returns : goal.element-returns
element-returns t c =
    let p = c.args.self.now in
    let e = c.next-token.ensures in
    let o = c.leaf.ensures.others in
    let leaf = leafy c.next-token.result (ap stops e.token ∙ c.requires.go) c.in_default.not-GroupOpen in
    let q : PatternReader = record { book = c.leaf.new.self.book; reader = c.leaf.new.self.reader; row = c.push-2.new.self; names = c.leaf.new.self.names } in
    record {
      onward = onward p c.next-token.new.self e.same e.start e.moved q o.book o.reader;
      forward = let l = forward p c.next-token.new.self e.same e.start e.moved (ap is_end (sym e.token) ∙ leaf.goes) in omega (arith, ap (λ (r : Reader). r.at) o.reader);
      went = leaf_put p c.next-token.new.self e.same e.start e.moved c.args.depth (shape c.next-token.result) e.token leaf q c.in_ok-element.element c.push-2.result o.book o.reader (sym c.leaf.ensures.value ∙ c.in_ok-element.was) (c.in_ok-element.ensures.names refl) c.leaf.new.self.row o.row c.push-2.ensures;
    }
