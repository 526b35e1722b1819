-- The end changes nothing of what was pushed.
use Rattle.std.proofs.Common.{◌∙◌, List, ℕ, refl, sym, ap, subst, append-nil}
use Rattle.aho_core.specs.Patterns.{Patterns}
use Rattle.aho_stream.specs.After.{IsAfter}
use Rattle.aho_stream.specs.declared.progress.StreamProgress.{StreamProgress}
use Rattle.aho_stream.proofs.Pushings.{after_ended}
use Rattle.chromesquid.specs.contracts.automaton.AhoCorasickAutomaton.TheImpl.{ghosts}
use Rattle.chromesquid_c.specs.Streaming.{Ends, PushedStream}
use Rattle.chromesquid_c.proofs.pushed.Pushed.end.Goals.{After-end}
use Rattle.chromesquid_c.proofs.pushed.Pushed.end.Goals as goal

after : (c : After-end) (p : Patterns) (given : List ℕ) → IsAfter ghosts c.self.inside.searcher.value p 0 c.self.inside.progress given
    → IsAfter ghosts c.self.inside.searcher.value p 0 c.end.new.self given
after c p given a =
    subst (λ (s : StreamProgress). IsAfter ghosts c.self.inside.searcher.value p 0 s given) (sym c.end.ensures.ended)
    (after_ended ghosts c.self.inside.searcher.value p c.self.inside.progress given a c.self.invariant.unrefused)

pub invariant_of-self : goal.invariant_of-self
invariant_of-self c =
    let (p, given, of, a) = c.self.invariant.under_way in
    record {
      under_way = (p, given, of, after (goal.at.invariant_of-self c).After-end p given a);
      unrefused = ap (λ (s : StreamProgress). s.refused) c.end.ensures.ended ∙ c.self.invariant.unrefused;
      limit = ap (λ (s : StreamProgress). s.limit) c.end.ensures.ended ∙ c.self.invariant.limit;
    }

pub returns : goal.returns
returns c =
    let d = (goal.at.returns c).After-end in
    let new : PushedStream = record { searcher = c.self.inside.searcher.value; progress = c.end.new.self } in
    record {
      ends = subst (λ (s : PushedStream). Ends s new) c.self.view_is
          (record {
            goes_on = record {
              searcher = refl;
              pushed = λ p given was. record {
                of = was.of;
                after = subst (λ (bytes : List ℕ). IsAfter ghosts c.self.inside.searcher.value p 0 c.end.new.self bytes) (sym (append-nil given)) (after d p given was.after);
              };
            };
            told = ap (λ (s : StreamProgress). s.from) c.end.ensures.ended;
            ended = ap (λ (s : StreamProgress). s.ended) c.end.ensures.ended;
          });
    }
