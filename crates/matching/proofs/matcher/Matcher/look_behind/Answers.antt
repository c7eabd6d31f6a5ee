-- The node behind is what follows.
use Rattle.std.proofs.Common.{rules, ◌≡◌, ℕ, ◌≤◌, cond, ltb, length, Some, None, Option, MatchOption, is_some, sym, ap, ◌∙◌}
use Rattle.std.proofs.lemmas.Bool.{ltb-true, ltb-false, lt-ltb, le-ltb}
use Rattle.trees.specs.Forest.{Forest}
use Rattle.trees.specs.Windows.{win, win_none}
use Rattle.matching.specs.declared.nodes.Node.{Node}
use Rattle.matching.specs.declared.nodes.Seen.{Seen}
use Rattle.matching.specs.declared.nodes.Seen.TheVariants.{Leaf, Inner}
use Rattle.matching.specs.Levels.{Known, seen}
use Rattle.matching.specs.Rules.{choose_last, next}
use Rattle.matching.proofs.Choosing.{next_win}
use Rattle.matching.proofs.matcher.Matcher.look_behind.Goals as goal
use Rattle.matching.proofs.matcher.Matcher.look_behind.Goals.{then-behind-end, else-behind-end}

-- what the window begins with, by the node that was asked for
behind : (m : Forest) (p e : ℕ) → e ≤ length m → (o : Option Node) (n : Option Seen) → is_some o ≡ ltb p e → Known m p o → MatchOption o (n ≡ None) (λ a. n ≡ Some (seen a)) → n ≡ next (win m p e)
behind m p e h None n i k s = s ∙ sym (ap next (win_none m p e (ltb-false p e (sym i))))
behind m p e h (Some a) n i (l, z) s = s ∙ (λ j. Some (cond (ltb 1 (z j)) Inner (Leaf (l j)))) ∙ sym (next_win m p e (ltb-true p e (sym i)) h)

pub returns-clause-rule : goal.returns-clause-rule
returns-clause-rule g c =
    let m = g.T.Meant.meaning c.args.self.now.tree.now in
    let node = c.if-behind-end.node in
    let asked : is_some c.if-behind-end.node ≡ ltb c.args.behind c.args.end = elim c.if-behind-end.branch [
      | then-behind-end w ↦ ap is_some w.node-is ∙ sym (lt-ltb c.args.behind c.args.end w.if-behind-end.true)
      | else-behind-end w ↦ ap is_some w.node-is ∙ sym (le-ltb c.args.behind c.args.end w.if-behind-end.false)
    ] in
    let known : Known (g.T.Meant.meaning c.args.self.now.tree.now) c.args.behind c.if-behind-end.node = search rules in
    let told : MatchOption c.if-behind-end.node (c.map.result ≡ None) (λ a. c.map.result ≡ Some (seen a)) = search rules in
    c.choose_behind.ensures ∙ ap (choose_last c.args.variable c.args.elements.now) (behind m c.args.behind c.args.end c.requires node c.map.result asked known told)
