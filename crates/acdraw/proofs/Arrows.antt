-- Arrows that are added one by one.
use Rattle.std.proofs.Common.{◌≡◌, ◌≢◌, ℕ, ◌+◌, ◌<◌, List, [], ◌∷◌, ◌++◌, length, get_or, take, ◌∙◌, subst, arith}
use Rattle.std.specs.List.{All, AllPairs, Any}
use Rattle.std.proofs.lemmas.Grind.{common_steps}
use Rattle.std.proofs.lemmas.List.{get_or_append_left}
use Rattle.std.proofs.lemmas.List.Elements.{All-more}
use Rattle.std.proofs.lemmas.List.Quantifiers.{Any-push, all_pairs_push}
use Rattle.aho_table.specs.Table.{fail_id}
use Rattle.acdraw.specs.Arrows.{LeadsTo}
use Rattle.acdraw.specs.declared.picture.arrows.Arrow.{Arrow}
use Rattle.acdraw.specs.declared.picture.runs.Run.{Run}

-- each run so far that leads on has an arrow
abbrev pub HaveArrows : List Arrow → List Run → Type 0
HaveArrows arrows runs = All (λ (run : Run). run.next ≢ fail_id → Any (LeadsTo run.next) arrows) runs

-- a run whose arrow is there
pub have_same : (arrows : List Arrow) (runs : List Run) (i : ℕ) (run : Run) → i < length runs → run ≡ get_or runs i run
    → (run.next ≢ fail_id → Any (LeadsTo run.next) arrows) → HaveArrows arrows (take i runs) → HaveArrows arrows (take (i + 1) runs)
have_same arrows runs i run below is here so_far =
    let P : Run → Type 0 = λ run. run.next ≢ fail_id → Any (LeadsTo run.next) arrows in
    All-more P runs i run below so_far (subst P is here)

-- an arrow more, for this run
pub have_more : (arrows : List Arrow) (arrow : Arrow) (runs : List Run) (i : ℕ) (run : Run) → i < length runs → run ≡ get_or runs i run → arrow.next ≡ run.next
    → HaveArrows arrows (take i runs) → HaveArrows (arrows ++ arrow ∷ []) (take (i + 1) runs)
have_more arrows arrow runs i run below is leads so_far =
    have_same (arrows ++ arrow ∷ []) runs i run below is (λ led. Any-push (LeadsTo run.next) arrows arrow leads) (λ k d lt led. kept (get_or (take i runs) k d).next (so_far k d lt led))
  where
    kept : (sid : ℕ) → Any (LeadsTo sid) arrows → Any (LeadsTo sid) (arrows ++ arrow ∷ [])
    kept sid (k, other, below, at, leads) =
        let longer : k < length (arrows ++ arrow ∷ []) = grind (arith, common_steps) in
        (k, other, longer, get_or_append_left arrows (arrow ∷ []) other k below ∙ at, leads)

-- it leads where none of the others does
pub alone_more : (arrows : List Arrow) (arrow : Arrow) (next : ℕ) → arrow.next ≡ next → AllPairs (λ (first second : Arrow). first.next ≢ second.next) arrows
    → All (λ (other : Arrow). other.next ≢ next) arrows → AllPairs (λ (first second : Arrow). first.next ≢ second.next) (arrows ++ arrow ∷ [])
alone_more arrows arrow next leads so_far none =
    all_pairs_push (λ (first second : Arrow). first.next ≢ second.next) arrows arrow so_far (λ k d below same. none k d below (same ∙ leads))
