-- A search of a stream by the rows that a searcher holds has come as far as one by the searcher.
use Rattle.std.proofs.Common.{◌≡◌, ℕ, List, Option, ap, subst, sym}
use Rattle.aho_core.specs.Patterns.{Patterns}
use Rattle.aho_backward.specs.declared.backward.Backward.{Backward}
use Rattle.aho_corasick.specs.declared.noncontiguous.NFA.{NFA}
use Rattle.aho_hybrid.specs.contracts.hybrid.HybridAutomaton.TheImpl.{ghosts as of_rows}
use Rattle.aho_hybrid.specs.declared.hybrid.Hybrid.{Hybrid as HybridOf}
use Rattle.aho_stream.specs.After.{IsAfter, StaysAfter}
use Rattle.aho_stream.specs.declared.progress.StreamProgress.{StreamProgress}
use Rattle.chromesquid.specs.Searcher.{IsBuiltFrom, Searcher}
use Rattle.chromesquid.specs.contracts.automaton.AhoCorasickAutomaton.TheImpl.{ghosts as of_searcher}
use Rattle.chromesquid.specs.declared.engine.Engine.{Engine}
use Rattle.chromesquid.specs.declared.engine.Engine.TheVariants.{Rows}
use Rattle.chromesquid.specs.declared.kinds.StartKind.{StartKind}

-- ---- of a searcher with these rows

module _ (hybrid : HybridOf) (kind : StartKind) (back : Option (Backward NFA)) where
  abbrev owner : Searcher
  owner = record { automaton = Rows hybrid; start_kind = kind; backward = back }

  module _ (p : Patterns) (lookups : ℕ) (s : StreamProgress) (given : List ℕ) where
    to_rows : IsAfter of_searcher owner p lookups s given → IsAfter of_rows hybrid p lookups s given
    to_rows a = record {
      no_empty = a.no_empty;
      sized = a.sized;
      start_is = a.start_is;
      start_shallow = a.start_shallow;
      start_held = a.start_held;
      count = a.count;
      limited = a.limited;
      bounded = a.bounded;
      least = a.least;
      size = a.size;
      enough = a.enough;
      last = a.last;
      kept = a.kept;
      told_reported = a.told_reported;
      from_reported = a.from_reported;
      from_origin = a.from_origin;
      origin_walked = a.origin_walked;
      reported_walked = a.reported_walked;
      walked_read = a.walked_read;
      position = a.position;
      once = a.once;
      each = a.each;
      paid = a.paid;
      apart = a.apart;
      is_state = a.is_state;
      held_is = a.held_is;
      best_is = a.best_is;
      in_hand_is = a.in_hand_is;
      clear = a.clear;
      stopped = a.stopped;
    }

    from_rows : IsAfter of_rows hybrid p lookups s given → IsAfter of_searcher owner p lookups s given
    from_rows a = record {
      no_empty = a.no_empty;
      sized = a.sized;
      start_is = a.start_is;
      start_shallow = a.start_shallow;
      start_held = a.start_held;
      count = a.count;
      limited = a.limited;
      bounded = a.bounded;
      least = a.least;
      size = a.size;
      enough = a.enough;
      last = a.last;
      kept = a.kept;
      told_reported = a.told_reported;
      from_reported = a.from_reported;
      from_origin = a.from_origin;
      origin_walked = a.origin_walked;
      reported_walked = a.reported_walked;
      walked_read = a.walked_read;
      position = a.position;
      once = a.once;
      each = a.each;
      paid = a.paid;
      apart = a.apart;
      is_state = a.is_state;
      held_is = a.held_is;
      best_is = a.best_is;
      in_hand_is = a.in_hand_is;
      clear = a.clear;
      stopped = a.stopped;
    }

-- ---- of a searcher that holds these rows

module _ (hybrid : HybridOf) (searcher : Searcher) (held : searcher.automaton ≡ Rows hybrid) where
  is_owner : searcher ≡ owner hybrid searcher.start_kind searcher.backward
  is_owner = ap (λ (e : Engine). record { automaton = e; start_kind = searcher.start_kind; backward = searcher.backward }) held

  pub rows_are_of : (p : Patterns) → IsBuiltFrom searcher p → of_rows.is_of hybrid p
  rows_are_of p built = (subst (λ (x : Searcher). IsBuiltFrom x p) is_owner built).reads

  pub after_rows : (p : Patterns) (lookups : ℕ) (s : StreamProgress) (given : List ℕ) → IsAfter of_searcher searcher p lookups s given → IsAfter of_rows hybrid p lookups s given
  after_rows p lookups s given a = to_rows hybrid searcher.start_kind searcher.backward p lookups s given (subst (λ (x : Searcher). IsAfter of_searcher x p lookups s given) is_owner a)

  pub after_searcher : (p : Patterns) (lookups : ℕ) (s : StreamProgress) (given : List ℕ) → IsAfter of_rows hybrid p lookups s given → IsAfter of_searcher searcher p lookups s given
  after_searcher p lookups s given a = subst (λ (x : Searcher). IsAfter of_searcher x p lookups s given) (sym is_owner) (from_rows hybrid searcher.start_kind searcher.backward p lookups s given a)

  pub rows_stay : (lookups : ℕ) (s : StreamProgress) (lookups' : ℕ) (s' : StreamProgress) → StaysAfter of_rows hybrid lookups s lookups' s' → StaysAfter of_searcher searcher lookups s lookups' s'
  rows_stay lookups s lookups' s' stays = λ p given built a. after_searcher p lookups' s' given (stays p given (rows_are_of p built) (after_rows p lookups s given a))
