-- Each rule leads on, or ends the level as the definition has it.
use Rattle.std.proofs.Common.{◌≡◌, ℕ, ◌+◌, ◌-◌, ◌<◌, ◌≤◌, List, length, take, drop, sym, ap, ◌∙◌, subst, ⊎_elim, arith, rules}
use Rattle.std.proofs.lemmas.Result.{err_from_is_err_and}
use Rattle.trees.specs.Forest.{Forest, label_at, size_at}
use Rattle.trees.specs.Windows.{sound, Fits, fits_inner}
use Rattle.patterns.specs.declared.row.Element.{Element}
use Rattle.matching.specs.declared.found.Match.{Match}
use Rattle.matching.specs.declared.rule.Rule.TheVariants.{Enter}
use Rattle.matching.specs.Rules.{Outcome}
use Rattle.matching.specs.Levels.{Known}
use Rattle.matching.specs.Answers.{ended}
use Rattle.matching.proofs.Wholes.{group_inside, level_group, variable_small}
use Rattle.matching.proofs.Walking.{Reached, turn, turns, size_inside, suits, same_tree, was_stuck, both_went, was_opened, bound_lexeme, bound_tree, differs_lexeme, differs_tree, entered, not_entered, rest_all}
use Rattle.matching.proofs.matcher.Matcher.+match_level.Goals as goal

-- a level reached with the elements behind the first k, as a part of a slice is written
behind : {m : Forest} {n : ℕ} {o : Outcome} {most : ℕ} {p e : ℕ} {a : Match} (k : ℕ) (es : List Element) → Reached m n o most (drop k es) p e a → Reached m n o most (take (length es - k) (drop k es)) p e a
behind {m} {n} {o} {most} {p} {e} {a} k es r = subst (λ (fs : List Element). Reached m n o most fs p e a) (sym (rest_all k es)) r

pub returns-in-Stuck-clause-answer : goal.returns-in-Stuck-clause-answer
returns-in-Stuck-clause-answer g t c =
    let node : (c.match-ahead.node.label ≡ label_at (g.T.Meant.meaning c.loop-at.self.tree.now) c.loop-at.at) × (c.match-ahead.node.size ≡ size_at (g.T.Meant.meaning c.loop-at.self.tree.now) c.loop-at.at) = search rules in
    let t = turn (g.T.Meant.lawful c.loop-at.self.tree.now) c.loop-at.invariant.so c.loop-at-test.true node.0 node.1 c.in-Stuck.is c.choose_rule-choice.ensures.rule in
    was_stuck t

pub loop-at-preserved-in-BothGo-1 : goal.loop-at-preserved-in-BothGo-1
loop-at-preserved-in-BothGo-1 g t c =
    let node : (c.match-ahead.node.label ≡ label_at (g.T.Meant.meaning c.loop-at.self.tree.now) c.loop-at.at) × (c.match-ahead.node.size ≡ size_at (g.T.Meant.meaning c.loop-at.self.tree.now) c.loop-at.at) = search rules in
    let t = turn (g.T.Meant.lawful c.loop-at.self.tree.now) c.loop-at.invariant.so c.loop-at-test.true node.0 node.1 c.in-BothGo.is c.choose_rule-choice.ensures.rule in
    record { on = omega (arith, c.loop-at.invariant.on); tree = c.loop-at.invariant.tree; known = tt; so = behind 1 c.loop-at.rest.now (both_went t) }

pub loop-at-preserved-in-Open-1 : goal.loop-at-preserved-in-Open-1
loop-at-preserved-in-Open-1 g t c =
    let node : (c.match-ahead.node.label ≡ label_at (g.T.Meant.meaning c.loop-at.self.tree.now) c.loop-at.at) × (c.match-ahead.node.size ≡ size_at (g.T.Meant.meaning c.loop-at.self.tree.now) c.loop-at.at) = search rules in
    let t = turn (g.T.Meant.lawful c.loop-at.self.tree.now) c.loop-at.invariant.so c.loop-at-test.true node.0 node.1 c.in-Open.is c.choose_rule-choice.ensures.rule in
    record { on = omega (arith, c.loop-at.invariant.on); tree = c.loop-at.invariant.tree; known = tt; so = was_opened t }

pub returns-in_err-bind_variable-in-BindBeforeLexeme-clause-answer : goal.returns-in_err-bind_variable-in-BindBeforeLexeme-clause-answer
returns-in_err-bind_variable-in-BindBeforeLexeme-clause-answer g t c =
    let node : (c.match-ahead.node.label ≡ label_at (g.T.Meant.meaning c.loop-at.self.tree.now) c.loop-at.at) × (c.match-ahead.node.size ≡ size_at (g.T.Meant.meaning c.loop-at.self.tree.now) c.loop-at.at) = search rules in
    let t = turn (g.T.Meant.lawful c.loop-at.self.tree.now) c.loop-at.invariant.so c.loop-at-test.true node.0 node.1 c.in-BindBeforeLexeme.is c.choose_rule-choice.ensures.rule in
    let r = err_from_is_err_and c.from_residual.result c.from_residual.ensures.1 in
    ap (λ x. ended x c.bind_variable.new.self.found) r.1 ∙ differs_lexeme c.in-BindBeforeLexeme.variable c.bind_variable.new.self.found c.in_err-bind_variable-in-BindBeforeLexeme.ensures.answer t

pub loop-at-preserved-in-BindBeforeLexeme-1 : goal.loop-at-preserved-in-BindBeforeLexeme-1
loop-at-preserved-in-BindBeforeLexeme-1 g t c =
    let node : (c.match-ahead.node.label ≡ label_at (g.T.Meant.meaning c.loop-at.self.tree.now) c.loop-at.at) × (c.match-ahead.node.size ≡ size_at (g.T.Meant.meaning c.loop-at.self.tree.now) c.loop-at.at) = search rules in
    let t = turn (g.T.Meant.lawful c.loop-at.self.tree.now) c.loop-at.invariant.so c.loop-at-test.true node.0 node.1 c.in-BindBeforeLexeme.is c.choose_rule-choice.ensures.rule in
    let e : g.T.Meant.meaning c.bind_variable.new.self.tree.now ≡ g.T.Meant.meaning c.loop-at.self.tree.now = ap (λ r. g.T.Meant.meaning r.now) c.bind_variable.ensures.tree in
    record {
      on = omega (arith, c.loop-at.invariant.on);
      tree = c.bind_variable.ensures.tree ∙ c.loop-at.invariant.tree;
      known = tt;
      so = behind 2 c.loop-at.rest.now (same_tree e (bound_lexeme c.in-BindBeforeLexeme.variable c.bind_variable.new.self.found c.bind_variable.ensures.brief c.in_ok-bind_variable-in-BindBeforeLexeme.ensures.answer t));
    }

pub bind_variable-bound-requires-clause-variable : goal.bind_variable-bound-requires-clause-variable
bind_variable-bound-requires-clause-variable g t c =
    let node : (c.match-ahead.node.label ≡ label_at (g.T.Meant.meaning c.loop-at.self.tree.now) c.loop-at.at) × (c.match-ahead.node.size ≡ size_at (g.T.Meant.meaning c.loop-at.self.tree.now) c.loop-at.at) = search rules in
    let t = turns (g.T.Meant.lawful c.loop-at.self.tree.now) c.loop-at.invariant.so c.loop-at-test.true node.0 node.1 c.in-BindBeforeInner.is c.choose_rule-choice.ensures.rule in
    ⊎_elim (λ i. let s = suits i in variable_small c.loop-at.rest.now c.in-BindBeforeInner.variable c.loop-at.invariant.so.level s.0 s.1) (λ i. let s = suits i in variable_small c.loop-at.rest.now c.in-BindBeforeInner.variable c.loop-at.invariant.so.level s.0 s.1) t

pub returns-in_err-bound-in-BindBeforeInner-clause-answer : goal.returns-in_err-bound-in-BindBeforeInner-clause-answer
returns-in_err-bound-in-BindBeforeInner-clause-answer g t c =
    let node : (c.match-ahead.node.label ≡ label_at (g.T.Meant.meaning c.loop-at.self.tree.now) c.loop-at.at) × (c.match-ahead.node.size ≡ size_at (g.T.Meant.meaning c.loop-at.self.tree.now) c.loop-at.at) = search rules in
    let t = turns (g.T.Meant.lawful c.loop-at.self.tree.now) c.loop-at.invariant.so c.loop-at-test.true node.0 node.1 c.in-BindBeforeInner.is c.choose_rule-choice.ensures.rule in
    let r = err_from_is_err_and c.from_residual-in_err-bound-in-BindBeforeInner.result c.from_residual-in_err-bound-in-BindBeforeInner.ensures.1 in
    ap (λ x. ended x c.bind_variable-bound.new.self.found) r.1 ∙ differs_tree c.in-BindBeforeInner.variable c.bind_variable-bound.new.self.found (sym (ap (λ x. ended x c.bind_variable-bound.new.self.found) c.in_err-bound-in-BindBeforeInner.was) ∙ c.bind_variable-bound.ensures.answer) t

pub loop-at-preserved : goal.loop-at-preserved
loop-at-preserved g t c =
    let node : (c.match-ahead.node.label ≡ label_at (g.T.Meant.meaning c.loop-at.self.tree.now) c.loop-at.at) × (c.match-ahead.node.size ≡ size_at (g.T.Meant.meaning c.loop-at.self.tree.now) c.loop-at.at) = search rules in
    let t = turns (g.T.Meant.lawful c.loop-at.self.tree.now) c.loop-at.invariant.so c.loop-at-test.true node.0 node.1 c.in-BindBeforeInner.is c.choose_rule-choice.ensures.rule in
    let e : g.T.Meant.meaning c.bind_variable-bound.new.self.tree.now ≡ g.T.Meant.meaning c.loop-at.self.tree.now = ap (λ r. g.T.Meant.meaning r.now) c.bind_variable-bound.ensures.tree in
    record {
      on = omega (arith, c.loop-at.invariant.on);
      tree = c.bind_variable-bound.ensures.tree ∙ c.loop-at.invariant.tree;
      known = subst (λ f. Known f (c.loop-at.at + c.match-ahead.node.size) c.choose_rule-choice.result.next) (sym e) c.choose_rule-choice.ensures.known;
      so = behind 1 c.loop-at.rest.now (same_tree e (bound_tree c.in-BindBeforeInner.variable c.bind_variable-bound.new.self.found c.bind_variable-bound.ensures.brief (sym (ap (λ x. ended x c.bind_variable-bound.new.self.found) c.in_ok-bound-in-BindBeforeInner.was) ∙ c.bind_variable-bound.ensures.answer) t));
    }

pub match_level-requires : goal.match_level-requires
match_level-requires g t c κs within =
    let node : (c.match-ahead.node.label ≡ label_at (g.T.Meant.meaning c.loop-at.self.tree.now) c.loop-at.at) × (c.match-ahead.node.size ≡ size_at (g.T.Meant.meaning c.loop-at.self.tree.now) c.loop-at.at) = search rules in
    let t = turn (g.T.Meant.lawful c.loop-at.self.tree.now) c.loop-at.invariant.so c.loop-at-test.true node.0 node.1 (c.in-Enter.is ∙ ap (λ k. Enter k) (sym c.from-size.ensures)) c.choose_rule-choice.ensures.rule in
    let s = suits t in
    let m = g.T.Meant.meaning c.loop-at.self.tree.now in
    let so = c.loop-at.invariant.so in
    let here : c.loop-at.at < length (g.T.Meant.meaning c.loop-at.self.tree.now) = omega (arith, so.fit.within, c.loop-at-test.true) in
    let inner : c.loop-at.at + c.match-ahead.node.size ≤ c.args.end = size_inside t in
    let fits : Fits (g.T.Meant.meaning c.loop-at.self.tree.now) (c.loop-at.at + 1) (c.loop-at.at + c.match-ahead.node.size) = subst (λ (n : ℕ). Fits (g.T.Meant.meaning c.loop-at.self.tree.now) (c.loop-at.at + 1) (c.loop-at.at + n)) (sym node.1) (fits_inner (sound m (g.T.Meant.lawful c.loop-at.self.tree.now)) c.loop-at.at here) in
    (omega (arith, c.decreases, inner, c.loop-at.invariant.on, c.loop-at-test.true), (within, (level_group c.loop-at.rest.now c.from-size.result so.level s.0 s.1, (tt, (fits, omega (arith, so.brief, inner, c.loop-at-test.true, c.requires.room))))))

pub returns-in_err-match_level-in-Enter-clause-answer : goal.returns-in_err-match_level-in-Enter-clause-answer
returns-in_err-match_level-in-Enter-clause-answer g t c =
    let node : (c.match-ahead.node.label ≡ label_at (g.T.Meant.meaning c.loop-at.self.tree.now) c.loop-at.at) × (c.match-ahead.node.size ≡ size_at (g.T.Meant.meaning c.loop-at.self.tree.now) c.loop-at.at) = search rules in
    let t = turn (g.T.Meant.lawful c.loop-at.self.tree.now) c.loop-at.invariant.so c.loop-at-test.true node.0 node.1 (c.in-Enter.is ∙ ap (λ k. Enter k) (sym c.from-size.ensures)) c.choose_rule-choice.ensures.rule in
    let r = err_from_is_err_and c.from_residual-in_err-match_level-in-Enter.result c.from_residual-in_err-match_level-in-Enter.ensures.1 in
    ap (λ x. ended x c.match_level.new.self.found) r.1 ∙ not_entered t c.match_level.new.self.found c.in_err-match_level-in-Enter.ensures.answer

pub loop-at-preserved-in-Enter-1 : goal.loop-at-preserved-in-Enter-1
loop-at-preserved-in-Enter-1 g t c =
    let node : (c.match-ahead.node.label ≡ label_at (g.T.Meant.meaning c.loop-at.self.tree.now) c.loop-at.at) × (c.match-ahead.node.size ≡ size_at (g.T.Meant.meaning c.loop-at.self.tree.now) c.loop-at.at) = search rules in
    let t = turn (g.T.Meant.lawful c.loop-at.self.tree.now) c.loop-at.invariant.so c.loop-at-test.true node.0 node.1 (c.in-Enter.is ∙ ap (λ k. Enter k) (sym c.from-size.ensures)) c.choose_rule-choice.ensures.rule in
    let e : g.T.Meant.meaning c.match_level.new.self.tree.now ≡ g.T.Meant.meaning c.loop-at.self.tree.now = ap (λ r. g.T.Meant.meaning r.now) c.match_level.ensures.tree in
    let s = suits t in
    let (two, all) = group_inside c.loop-at.rest.now c.from-size.result c.loop-at.invariant.so.level s.0 s.1 in
    record {
      on = omega (arith, c.loop-at.invariant.on);
      tree = c.match_level.ensures.tree ∙ c.loop-at.invariant.tree;
      known = tt;
      so = behind c.from-size.result c.loop-at.rest.now (same_tree e (entered t c.match_level.new.self.found all c.match_level.ensures.brief c.in_ok-match_level-in-Enter.ensures.answer));
    }
