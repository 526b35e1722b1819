-- What stands for a searcher can do what the searcher can.
use Rattle.acredact.proofs.Common.{Automata, Bor, CanDoStreams, CanRedact, CanSearch, IsOk, List, Searcher, ap, length, of_searcher, shortest, subst, sym, ℕ, ◌∙◌, ◌≤◌}
use Rattle.std.proofs.Common.{Bool}
use Rattle.chromesquid.specs.Searcher.{StandsFor}
use Rattle.acredact.specs.Looks.{CanLook}

module _ {A : Type 0} (G : Automata A) (automaton : A) (searcher : Searcher) (stands : StandsFor G automaton searcher) where
  -- it searches streams, or covers them
  abbrev does_as : (covers : Bool) {Before Besides : Type 0} → Besides → CanDoStreams of_searcher searcher covers Before → CanDoStreams G automaton covers Besides
  does_as covers besides can = record {
    patterns = can.patterns;
    of = stands.of can.patterns can.of;
    begins = (can.begins.0, subst (λ (ns : List ℕ). 1 ≤ shortest ns) (sym stands.lengths) can.begins.1, stands.start ∙ can.begins.2);
    standard = λ is. stands.kind ∙ can.standard is;
    besides = besides;
  }

  -- it redacts
  pub redact_as : (covers : Bool) (replacements : List (Bor (List ℕ))) → CanRedact of_searcher searcher covers replacements → CanRedact G automaton covers replacements
  redact_as covers replacements can = does_as covers (can.besides ∙ ap length (sym stands.lengths)) can

  -- it looks for what counts
  pub look_as : (words : Bool) → CanLook of_searcher searcher words → CanLook G automaton words
  look_as words = does_as words tt

  -- it searches lines
  pub search_as : CanSearch of_searcher searcher → CanSearch G automaton
  search_as can = record {
    of = (can.of.0, stands.of can.of.0 can.of.1);
    standard = stands.kind ∙ can.standard;
    starts = subst IsOk (sym stands.start) can.starts;
    full = subst (λ (ns : List ℕ). 1 ≤ shortest ns) (sym stands.lengths) can.full;
  }
