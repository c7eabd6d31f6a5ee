-- The groups so far that hold the element are counted, and it ends inside each of them.
use Rattle.std.proofs.Common.{◌≡◌, ℕ, ◌<◌, ◌≤◌, length}
use Rattle.patterns.specs.Elements.{ends, around}
use Rattle.patterns.proofs.check.is_nested.Given as goal

abbrev pub invariant-loop-g : goal.invariant-loop-g
invariant-loop-g l = (l.groups ≡ around l.before (length l.before) l.g) × (l.groups ≤ l.g) × ((k : ℕ) → k < l.g → length l.before < ends l.before k → l.end ≤ ends l.before k)
