-- What the loop keeps.
use Rattle.std.proofs.Common.{◌≡◌, ◌≢◌, ◌+◌, ◌-◌, ◌*◌, ◌≤◌, true}
use Rattle.std.specs.Prelude.{Some, None}
use Rattle.aho_core.specs.Laws.{first_is_answer, longest}
use Rattle.aho_core.specs.Occurrence.{Occurrence}
use Rattle.aho_core.specs.Patterns.{Patterns}
use Rattle.aho_core.specs.declared.search.Anchored.TheVariants.{No, Yes}
use Rattle.aho_core.specs.declared.search.MatchKind.TheVariants.{Standard}
use Rattle.aho_automaton.proofs.Walks.{Standing}
use Rattle.aho_automaton.proofs.find.find_from.Given as goal

-- Over the same automaton and the same text, of which nothing from `from` on was read:
-- `paid`: two look-ups for each byte that was read pay for the look-ups so far, and the state's depth is left over;
-- `once`: no more bytes were read than were passed;
-- `quiet`: a search that stops at its first match has none yet;
-- `near`: a leftmost search is not far past the start of the match that it holds;
-- `anchored_near`: an anchored search has not read more than the longest pattern;
-- `low`, `here`: the place behind which it may go on is one of those so far;
-- `stands`: the state is held after the bytes that were read, and the best so far is theirs.
abbrev pub invariant-loop-from : goal.invariant-loop-from
invariant-loop-from g l =
    let automaton = g.W.Walk.of l.fn.walk in
    record {
      same_walk : g.W.Walk.of l.walk ≡ automaton;
      same_text : g.T.Text.bytes l.text ≡ g.T.Text.bytes l.fn.text;
      unread : g.T.Text.next l.text ≤ l.from;
      forward : g.T.Text.next l.fn.text ≤ g.T.Text.next l.text;
      paid : g.W.Walk.lookups l.walk + g.W.Of.Automaton.depth automaton l.sid ≤ g.W.Walk.lookups l.fn.walk + 2 * (g.T.Text.reads l.text - g.T.Text.reads l.fn.text);
      once : g.T.Text.reads l.text - g.T.Text.reads l.fn.text ≤ g.T.Text.next l.text - l.start;
      reads_grow : g.T.Text.reads l.fn.text ≤ g.T.Text.reads l.text;
      grows : g.W.Walk.lookups l.fn.walk ≤ g.W.Walk.lookups l.walk;
      valid : g.W.Of.Automaton.valid automaton l.sid;
      quiet : first_is_answer (g.W.Of.Automaton.kind automaton) l.earliest ≡ true → l.best ≡ None;
      near : l.anchored ≡ No → g.W.Of.Automaton.kind automaton ≢ Standard → (m : Occurrence) → l.best ≡ Some m → l.from ≤ m.start + longest (g.W.Of.Automaton.lengths automaton);
      anchored_near : l.anchored ≡ Yes → l.from ≤ l.start + longest (g.W.Of.Automaton.lengths automaton);
      low : l.start ≤ l.last;
      here : l.last ≤ l.from;
      within : l.from ≤ l.end;
      stands : (p : Patterns) → g.W.Of.Automaton.is_of automaton p → Standing p (g.W.Of.Automaton.held automaton p) l.anchored (g.T.Text.bytes l.fn.text) l.start l.from l.sid l.best;
    }

abbrev pub decreases-loop-from : goal.decreases-loop-from
decreases-loop-from g l = l.end - l.from

-- The same of the walk up to where it asks next.
abbrev pub invariant-loop-at : goal.invariant-loop-at
invariant-loop-at g l =
    let automaton = g.W.Walk.of l.fn.walk in
    record {
      same_walk : g.W.Walk.of l.walk ≡ automaton;
      same_text : g.T.Text.bytes l.text ≡ g.T.Text.bytes l.fn.text;
      unread : g.T.Text.next l.text ≤ l.at;
      forward : g.T.Text.next l.fn.text ≤ g.T.Text.next l.text;
      paid : g.W.Walk.lookups l.walk + g.W.Of.Automaton.depth automaton l.sid ≤ g.W.Walk.lookups l.fn.walk + 2 * (g.T.Text.reads l.text - g.T.Text.reads l.fn.text);
      once : g.T.Text.reads l.text - g.T.Text.reads l.fn.text ≤ g.T.Text.next l.text - l.start;
      reads_grow : g.T.Text.reads l.fn.text ≤ g.T.Text.reads l.text;
      grows : g.W.Walk.lookups l.fn.walk ≤ g.W.Walk.lookups l.walk;
      valid : g.W.Of.Automaton.valid automaton l.sid;
      quiet : first_is_answer (g.W.Of.Automaton.kind automaton) l.earliest ≡ true → l.best ≡ None;
      near : l.anchored ≡ No → g.W.Of.Automaton.kind automaton ≢ Standard → (m : Occurrence) → l.best ≡ Some m → l.at ≤ m.start + longest (g.W.Of.Automaton.lengths automaton);
      anchored_near : l.anchored ≡ Yes → l.at ≤ l.start + longest (g.W.Of.Automaton.lengths automaton);
      stands : (p : Patterns) → g.W.Of.Automaton.is_of automaton p → Standing p (g.W.Of.Automaton.held automaton p) l.anchored (g.T.Text.bytes l.fn.text) l.start l.at l.sid l.best;
    }
