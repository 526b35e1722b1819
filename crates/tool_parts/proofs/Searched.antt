-- The searcher that was made is of what is asked for.
use Rattle.std.specs.Prelude.{IsOk}
use Rattle.std.proofs.Common.{◌≡◌, ◌∙◌, false, length, List, ℕ, refl, subst, sym, Bor}
use Rattle.aho_core.specs.Patterns.{Patterns}
use Rattle.aho_core.specs.Replacement.{pieces_of}
use Rattle.aho_core.specs.declared.search.Anchored.TheVariants.{No}
use Rattle.aho_core.specs.declared.search.MatchKind.{MatchKind}
use Rattle.aho_automaton.specs.declared.automaton.Automaton.{Ghosts as Automata}
use Rattle.aho_build.specs.Items.{patterns_of}
use Rattle.chromesquid.proofs.Built.{count_of, start_of}
use Rattle.chromesquid.specs.Searcher.{Answers, Building, IsBuiltFrom, Searcher, StandsFor, default_building, match_kind_of, patterns_len_of}
use Rattle.tool_parts.specs.Asked.{Replacing, patterns_to_replace, standard_patterns}

-- built from these byte strings, by a new builder, it is of the patterns of a replacement
pub built_to_replace : (asked : Replacing) (builder : Building) (patterns : List (Bor (List ℕ))) (searcher : Searcher) → builder ≡ default_building → asked.patterns ≡ pieces_of patterns
    → IsBuiltFrom searcher (patterns_of builder.settings patterns) → IsBuiltFrom searcher (patterns_to_replace asked)
built_to_replace asked builder patterns searcher new same built =
    subst (λ (words : List (List ℕ)). IsBuiltFrom searcher (standard_patterns false words)) (sym same)
    (subst (λ (b : Building). IsBuiltFrom searcher (patterns_of b.settings patterns)) new built)

-- as many pieces as its patterns are as many as it has
pub piece_each : (p : Patterns) (searcher : Searcher) (pieces : List (Bor (List ℕ))) → IsBuiltFrom searcher p → length p.words ≡ length pieces → length pieces ≡ patterns_len_of searcher
piece_each p searcher pieces built same = sym same ∙ sym (count_of p searcher built)

-- an automaton that answers as the searcher does prints what a task asks for
module _ {A : Type 0} (G : Automata A) (automaton : A) (searcher : Searcher) (stands : StandsFor G automaton searcher) where
  pub some_of : (p : Patterns) → IsBuiltFrom searcher p → (q : Patterns) × G.is_of automaton q
  some_of p built = (p, stands.of p built)

  pub starts_by : (p : Patterns) → IsBuiltFrom searcher p → Answers searcher No → IsOk (G.start automaton No)
  starts_by p built answers =
      let start = start_of No searcher (p, built) answers in
      subst IsOk (sym (stands.start ∙ start.1)) refl

  pub kind_by : (kind : MatchKind) → match_kind_of searcher ≡ kind → G.kind automaton ≡ kind
  kind_by kind is = stands.kind ∙ is
