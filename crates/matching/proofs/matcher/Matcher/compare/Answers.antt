-- Each pair tells whether the two subtrees go on alike.
use Rattle.std.proofs.Common.{◌≡◌, ◌+◌, ◌<◌, not, length, sym, ap, ◌∙◌, subst, arith}
use Rattle.trees.specs.Forest.{size_at, subtree, same, compared}
use Rattle.trees.specs.Windows.{sound}
use Rattle.matching.proofs.Comparing.{nodes_tested, one_more, differ}
use Rattle.matching.proofs.matcher.Matcher.compare.Goals as goal

pub returns-then-ne : goal.returns-then-ne
returns-then-ne g c =
    let m = g.T.Meant.meaning c.loop-i.self.tree.now in
    let q = c.args.first in
    let p = c.args.second in
    let i = c.loop-i.i in
    let e : g.T.Meant.meaning c.loop-i.self.tree.now ≡ g.T.Meant.meaning c.args.self.now.tree.now = ap (λ t. g.T.Meant.meaning t.now) c.loop-i.invariant.tree in
    let l : i < size_at m p = subst (λ f. c.loop-i.i < size_at f c.args.second) (sym e) (omega (arith, c.requires.size, c.loop-i-test.true)) in
    let h : q < length m = subst (λ f. c.args.first < length f) (sym e) c.requires.first in
    let k : p < length m = subst (λ f. c.args.second < length f) (sym e) c.requires.second in
    let t = nodes_tested m (q + i) (p + i) _ _ _ _ _ c.node_at.ensures.label c.node_at.ensures.size c.node_at-in-loop-i.ensures.label c.node_at-in-loop-i.ensures.size c.ne.ensures in
    let (f, n) = differ m (sound m (g.T.Meant.lawful c.loop-i.self.tree.now)) q p h k i l c.loop-i.invariant.so_far (t ∙ ap not c.if-ne.true) in
    let y : compared (subtree (g.T.Meant.meaning c.loop-i.self.tree.now) c.args.first) (subtree (g.T.Meant.meaning c.loop-i.self.tree.now) c.args.second) ≡ compared (subtree (g.T.Meant.meaning c.args.self.now.tree.now) c.args.first) (subtree (g.T.Meant.meaning c.args.self.now.tree.now) c.args.second) = λ j. compared (subtree (e j) c.args.first) (subtree (e j) c.args.second) in
    record {
      same = sym f ∙ (λ j. same (subtree (e j) c.args.first) (subtree (e j) c.args.second));
      steps = omega (arith, c.loop-i.invariant.steps, n, y);
      places = c.loop-i.invariant.places;
      tree = c.loop-i.invariant.tree;
    }

pub loop-i-preserved : goal.loop-i-preserved
loop-i-preserved g c =
    let m = g.T.Meant.meaning c.loop-i.self.tree.now in
    let q = c.args.first in
    let p = c.args.second in
    let i = c.loop-i.i in
    let e : g.T.Meant.meaning c.loop-i.self.tree.now ≡ g.T.Meant.meaning c.args.self.now.tree.now = ap (λ t. g.T.Meant.meaning t.now) c.loop-i.invariant.tree in
    let l : i < size_at m p = subst (λ f. c.loop-i.i < size_at f c.args.second) (sym e) (omega (arith, c.requires.size, c.loop-i-test.true)) in
    let h : q < length m = subst (λ f. c.args.first < length f) (sym e) c.requires.first in
    let k : p < length m = subst (λ f. c.args.second < length f) (sym e) c.requires.second in
    let t = nodes_tested m (q + i) (p + i) _ _ _ _ _ c.node_at.ensures.label c.node_at.ensures.size c.node_at-in-loop-i.ensures.label c.node_at-in-loop-i.ensures.size c.ne.ensures in
    record {
      tree = c.loop-i.invariant.tree;
      places = c.loop-i.invariant.places;
      steps = omega (arith, c.loop-i.invariant.steps);
      so_far = one_more m (sound m (g.T.Meant.lawful c.loop-i.self.tree.now)) q p h k i l c.loop-i.invariant.so_far (t ∙ ap not c.if-ne.false);
    }
