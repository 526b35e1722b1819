-- What the loop over candidates keeps.
use Rattle.std.proofs.Common.{◌≡◌, ◌+◌, ◌-◌, ◌*◌, ◌≤◌}
use Rattle.aho_core.specs.Patterns.{Patterns}
use Rattle.aho_automaton.specs.WalkEnds.{Carries}
use Rattle.aho_automaton.proofs.find.find_skipping.Given as goal

abbrev pub invariant-skips : goal.invariant-skips
invariant-skips g l =
    let automaton = g.W.Walk.of l.initial.walk in
    record {
      same_walk : g.W.Walk.of l.walk ≡ automaton;
      same_text : g.T.Text.bytes l.text ≡ g.T.Text.bytes l.initial.text;
      after_start : l.start ≤ l.at;
      before_end : l.at ≤ l.end;
      unread : g.T.Text.next l.text ≤ l.at;
      forward : g.T.Text.next l.initial.text ≤ g.T.Text.next l.text;
      paid : g.W.Walk.lookups l.walk ≤ g.W.Walk.lookups l.initial.walk + 2 * (g.T.Text.reads l.text - g.T.Text.reads l.initial.text);
      once : g.T.Text.reads l.text - g.T.Text.reads l.initial.text ≤ g.T.Text.next l.text - l.start;
      reads_grow : g.T.Text.reads l.initial.text ≤ g.T.Text.reads l.text;
      grows : g.W.Walk.lookups l.initial.walk ≤ g.W.Walk.lookups l.walk;
      carries : (p : Patterns) → g.W.Of.Automaton.is_of automaton p → Carries p (g.T.Text.bytes l.initial.text) l.start l.end l.at;
    }

abbrev pub decreases-skips : goal.decreases-skips
decreases-skips g l = l.end - l.at
