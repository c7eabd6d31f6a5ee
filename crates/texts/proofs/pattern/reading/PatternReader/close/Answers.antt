-- A group is closed by the token that closes groups, where something stands in it.
use Rattle.std.proofs.Common.{sym, refl, ap, ◌∙◌, arith}
use Rattle.texts.specs.declared.pattern.reading.PatternReader.{PatternReader}
use Rattle.texts.specs.PatternSteps.{stops}
use Rattle.texts.proofs.Scanning.{stop_not_close}
use Rattle.texts.proofs.Grouping.{onward, shuts, shuts_nothing, never_shut}
use Rattle.texts.proofs.pattern.reading.PatternReader.close.Goals as goal

pub returns-in_default : goal.returns-in_default
returns-in_default c =
    let e = c.next.ensures in
    record {
      onward = onward c.args.self.now c.next.new.self e.same e.start e.moved _ refl refl;
      shut = never_shut c.args.self.now c.next.new.self e.same e.start e.moved c.args.group (sym (stop_not_close c.next.result (ap stops e.token ∙ c.requires.stop) c.in_default.not-GroupClose) ∙ e.token);
    }

pub returns-then-count-group : goal.returns-then-count-group
returns-then-count-group c =
    let e = c.next.ensures in
    record {
      onward = onward c.args.self.now c.next.new.self e.same e.start e.moved _ refl refl;
      shut = shuts_nothing c.args.self.now c.next.new.self e.same e.start e.moved c.args.group (omega arith) c.in-GroupClose.ensures.token;
    }

pub returns : goal.returns
returns c =
    let p = c.args.self.now in
    let e = c.next.ensures in
    let q : PatternReader = record { book = p.book; reader = c.next.new.self; row = c.end_group.new.self; names = p.names } in
    record {
      onward = onward p c.next.new.self e.same e.start e.moved q refl refl;
      shut = (shuts p c.next.new.self e.same e.start e.moved c.args.group (omega arith) c.in-GroupClose.ensures.token q refl refl refl c.end_group.ensures.elements, c.end_group.ensures.count);
    }
