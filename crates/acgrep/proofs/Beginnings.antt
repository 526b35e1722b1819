-- A beginning of what is told of lines, put together from parts.
use Rattle.acgrep.proofs.Common.{Appends, Job, Patterns, State}
use Rattle.std.proofs.Common.{◌++◌, ◌<◌, ◌∙◌, ◌≡◌, List, Option, Some, [], ap, inl, length, ℕ}
use Rattle.std.specs.Prelude.{Err, Ok, OnErr, Result}
use Rattle.acgrep.specs.Contexts.{BeginsLines}
use Rattle.acgrep.specs.Lines.{lines}
use Rattle.acgrep.specs.Written.{SamePlace, SearchesTo, TellsLines, after_lines}
use Rattle.acgrep.proofs.Begun.{begins_behind}
use Rattle.acgrep.proofs.Tellings.{tells_append, tells_same}

-- what holds whatever the result
pub on_err : {T E : Type 0} {P : Type 0} (r : Result T E) → P → OnErr r P
on_err (Ok x) holds = tt
on_err (Err e) holds = holds

-- the bytes that were put together
pub page_bytes : (before after bytes shown : List ℕ) → before ≡ [] → bytes ≡ after → Appends (Some before) (Some after) shown → bytes ≡ shown
page_bytes before after bytes shown none same is = same ∙ is ∙ ap (λ (l : List ℕ). l ++ shown) none

module _ (p : Patterns) (job : Job) where
  -- lines stand before them that are told
  pub begins_join : (a b : State) (count : ℕ) (x y z : Option (List ℕ)) (ls ms : List (List ℕ)) → TellsLines p job a b x y ls → SamePlace job b.place (after_lines a.place ls)
      → BeginsLines p job b count y z ms → BeginsLines p job a count x z (ls ++ ms)
  begins_join a b count x y z ls ms one same other = begins_behind _ _ ls ms x y z one.bytes
      (λ first all tells. tells_append p job ls first a.place a.selected b.selected count one.bytes all one.told
      (tells_same p job first b.place _ b.selected all count same tells)) one.written other

  -- lines that were searched, and a beginning of those that follow
  pub begins_rest : (a b : State) (count : ℕ) (x y z : Option (List ℕ)) (text rest : List ℕ) → SearchesTo p job a b x y text rest → 0 < length rest
      → BeginsLines p job b count y z (lines job.style.ending rest) → BeginsLines p job a count x z (lines job.style.ending text)
  begins_rest a b count x y z text rest so_far some begins = rw so_far.cut (begins_join _ _ _ _ _ _ so_far.searched _ so_far.tells (so_far.placed (inl some)) begins)
