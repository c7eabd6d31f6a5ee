-- The slot of the group is one of those that count.
use Rattle.std.proofs.Common.{◌-◌}
use Rattle.std.proofs.Math.Seq.{take-set-lt}
use Rattle.patterns.specs.declared.row.Element.TheVariants.{Group}
use Rattle.texts.proofs.pattern.row_builder.RowBuilder.end_group.Goals as goal

pub returns-clause-elements : goal.returns-clause-elements
returns-clause-elements c = take-set-lt c.args.self.now.row.count c.args.self.now.row.elements c.args.group (Group (c.args.self.now.row.count - c.args.group)) c.requires
