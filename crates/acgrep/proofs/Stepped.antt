-- One line of a walk: what is written of it, and where the walk then is.
use Rattle.acgrep.proofs.Common.{Appends, Context, Job, Patterns, Place}
use Rattle.std.proofs.Common.{◌++◌, ◌∙◌, ◌∷◌, ◌≡◌, List, Option, [], ap, append_assoc, sym, ℕ}
use Rattle.acgrep.specs.Contexts.{ShowsEach, Steps, Walk, WalksBegun, WalksLines}
use Rattle.acgrep.specs.Lines.{lines}
use Rattle.acgrep.proofs.Walked.{begun_behind, lines_join, walks_one}

module _ (p : Patterns) (job : Job) where
  module _ (context : Context) where
    -- the lines of a text up to those that are left are searched
    pub record WalksTo (a b : Walk) (x y : Option (List ℕ)) (text rest : List ℕ) : Type 0 where
      pub searched : List (List ℕ)
      pub cut : lines job.style.ending text ≡ searched ++ lines job.style.ending rest
      pub tells : WalksLines p job context a b x y searched

    pub to_step : (a b c : Walk) (x y z : Option (List ℕ)) (text rest line left bytes : List ℕ) → lines job.style.ending rest ≡ line ∷ lines job.style.ending left → WalksTo a b x y text rest
        → Steps p job context b line bytes c → Appends y z bytes → WalksTo a c x z text left
    to_step a b c x y z text rest line left bytes more to step written = record {
      searched = to.searched ++ (line ∷ []);
      cut = to.cut ∙ ap (λ (l : List (List ℕ)). to.searched ++ l) more ∙ sym (append_assoc to.searched (line ∷ []) (lines job.style.ending left));
      tells = lines_join p job context a b c x y z to.searched (line ∷ []) to.tells (record { bytes = bytes; walks = walks_one p job context b c line bytes step; written = written });
    }

    -- and of those that are left a beginning of what is told is written
    pub to_begun : (a b : Walk) (x y z : Option (List ℕ)) (text rest : List ℕ) → WalksTo a b x y text rest → WalksBegun p job context b y z (lines job.style.ending rest)
        → WalksBegun p job context a x z (lines job.style.ending text)
    to_begun a b x y z text rest to begun = rw to.cut (begun_behind p job context a b x y z to.searched _ to.tells begun)

  -- lines around a selected one so far: where what is asked of the others is written from there on, that of all is
  abbrev pub ShowsTo : (first place : Place) (x y : Option (List ℕ)) (ls rest : List (List ℕ)) → Type 0
  ShowsTo first place x y ls rest = (bytes : List ℕ) (z : Option (List ℕ)) → ShowsEach p job place rest bytes → Appends y z bytes
      → (all : List ℕ) × ShowsEach p job first ls all × Appends x z all
