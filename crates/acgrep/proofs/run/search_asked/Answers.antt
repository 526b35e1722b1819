-- Without a pattern nothing is written.
use Rattle.acgrep.proofs.Common.{Source, common_steps, concat, name_bytes, nil_from_length, some-one}
use Rattle.std.proofs.Common.{◌<◌, ◌∙◌, ◌∷◌, ◌≡◌, Bor, List, [], arith, false, inl, inr, length, refl, sym, ℕ}
use Rattle.acgrep.specs.Runs.{names_by, origins_of, sources_by}
use Rattle.acgrep.specs.Told.{wrong_parts}
use Rattle.acgrep.specs.declared.wrong.Wrong.TheVariants.{NoPattern}
use Rattle.acgrep.proofs.Told.{status-some}
use Rattle.acgrep.proofs.run.search_asked.Given.{Over}
use Rattle.acgrep.proofs.run.search_asked.Goals.{After-search, In-Some}
use Rattle.acgrep.proofs.run.search_asked.Goals as goal

pub returns-in-None-clause-told : goal.returns-in-None-clause-told
returns-in-None-clause-told g c = status-some g.E.Sink _ _ _ _ _ (some-one g.E.Sink _ _ _ (concat (wrong_parts NoPattern)) (inl (inr refl)) c.tell_wrong.ensures.told)

-- where options give patterns, all operands name files
sources_all : (sources : List Source) (operands : List (List ℕ)) → 0 < length sources
    → (sources_by (origins_of sources) operands ≡ origins_of sources) × (names_by (origins_of sources) operands ≡ operands)
sources_all [] operands some = absurd (omega (arith, some))
sources_all (source ∷ sources) operands some = (refl, refl)

all-given : (g : Over) (c : After-search g) → 0 < length c.args.given.now.sources.items
all-given g c = rw (← c.as_slice-sources.ensures.value) (grind (arith, common_steps, c.is_empty.ensures, c.if-not-is_empty.true))

pub returns-then-not-is_empty-clause-begins : goal.returns-then-not-is_empty-clause-begins
returns-then-not-is_empty-clause-begins g c =
    let all = sources_all c.args.given.now.sources.items (name_bytes c.args.given.now.operands.items) (all-given g (goal.at.returns-then-not-is_empty-clause-begins g c).After-search) in
    rw (all.0, all.1) (rw (c.as_slice-sources.ensures.value, c.as_slice-operands.ensures.value) at c.search.ensures.begins)

pub returns-then-not-is_empty-clause-searches : goal.returns-then-not-is_empty-clause-searches
returns-then-not-is_empty-clause-searches g c = λ low.
    let all = sources_all c.args.given.now.sources.items (name_bytes c.args.given.now.operands.items) (all-given g (goal.at.returns-then-not-is_empty-clause-searches g c).After-search) in
    rw (all.0, all.1) (rw (c.as_slice-sources.ensures.value, c.as_slice-operands.ensures.value) at c.search.ensures.searches low)

pub returns-then-not-is_empty-clause-told : goal.returns-then-not-is_empty-clause-told
returns-then-not-is_empty-clause-told g c =
    let all = sources_all c.args.given.now.sources.items (name_bytes c.args.given.now.operands.items) (all-given g (goal.at.returns-then-not-is_empty-clause-told g c).After-search) in
    rw (all.0, all.1) (rw (c.as_slice-sources.ensures.value, c.as_slice-operands.ensures.value) at c.search.ensures.told)

-- where none does the first operand gives them
as-first : (items : List Source) (operands : List (Bor (List ℕ))) (pattern : Bor (List ℕ)) (names : List (Bor (List ℕ))) → items ≡ [] → operands ≡ pattern ∷ names
    → (sources_by (origins_of items) (name_bytes operands) ≡ record { is_file = false; bytes = pattern.now } ∷ []) × (names_by (origins_of items) (name_bytes operands) ≡ name_bytes names)
as-first items operands pattern names none cut = (rw (none, cut) refl, rw (none, cut) refl)

none-given : (g : Over) (c : In-Some g) → c.args.given.now.sources.items ≡ []
none-given g c = sym c.as_slice-sources.ensures.value ∙ nil_from_length c.as_slice-sources.result.now (grind (arith, common_steps, c.is_empty.ensures, c.if-not-is_empty.false))

pub returns-in-Some-clause-told : goal.returns-in-Some-clause-told
returns-in-Some-clause-told g c =
    let all = as-first _ _ _ _ (none-given g (goal.at.returns-in-Some-clause-told g c).In-Some) (sym c.as_slice-operands.ensures.value ∙ c.in-Some.ensures.cases.0) in
    rw (all.0, all.1) c.search-in-Some.ensures.told

pub returns-in-Some-clause-searches : goal.returns-in-Some-clause-searches
returns-in-Some-clause-searches g c = λ low.
    let all = as-first _ _ _ _ (none-given g (goal.at.returns-in-Some-clause-searches g c).In-Some) (sym c.as_slice-operands.ensures.value ∙ c.in-Some.ensures.cases.0) in
    rw (all.0, all.1) (c.search-in-Some.ensures.searches low)
