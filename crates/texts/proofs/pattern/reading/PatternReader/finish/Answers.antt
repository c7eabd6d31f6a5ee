-- A pattern ends with the text, where it has an element.
use Rattle.std.proofs.Common.{sym, ap, ◌∙◌, arith}
use Rattle.texts.specs.PatternSteps.{stops}
use Rattle.texts.proofs.Scanning.{stop_not_end}
use Rattle.texts.proofs.Grouping.{ends, ends_empty, never_open}
use Rattle.texts.proofs.pattern.reading.PatternReader.finish.Goals as goal

pub returns-in_default : goal.returns-in_default
returns-in_default c =
    let e = c.next.ensures in
    never_open c.args.self.now c.next.new.self e.same e.start e.moved (sym (stop_not_end c.next.result (ap stops e.token ∙ c.requires) c.in_default.not-End) ∙ e.token)

pub returns-then-count-eq0 : goal.returns-then-count-eq0
returns-then-count-eq0 c =
    let e = c.next.ensures in
    ends_empty c.args.self.now c.next.new.self e.same e.start e.moved c.in-End.ensures.token (omega arith)

pub returns : goal.returns
returns c =
    let e = c.next.ensures in
    ends c.args.self.now c.next.new.self e.same e.start e.moved c.in-End.ensures.token (omega arith)
