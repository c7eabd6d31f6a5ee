-- The bytes left become fewer, and what is read in the end stays the same.
use Rattle.std.proofs.Common.{◌+◌, ◌-◌, ◌*◌, length}
use Rattle.texts.specs.PatternSteps.{Onward, Moved}
use Rattle.texts.proofs.pattern.reading.PatternReader.+element_level.Given as goal

abbrev pub decreases-element : goal.decreases-element
decreases-element l = 2 * (length l.self.now.reader.text.now - l.self.now.reader.at)

abbrev pub decreases-level : goal.decreases-level
decreases-level l = 2 * (length l.self.now.reader.text.now - l.self.now.reader.at) + 1

abbrev pub invariant-level-loop-self : goal.invariant-level-loop-self
invariant-level-loop-self l = record { onward : Onward l.initial.self l.self; moved : Moved l.depth l.initial.self l.self }

abbrev pub decreases-level-loop-self : goal.decreases-level-loop-self
decreases-level-loop-self l = length l.self.reader.text.now - l.self.reader.at
