-- By what a stream is redacted.
use Rattle.acredact.specs.Common.{Bor, Ghosts, Patterns, PieceRule}
use Rattle.std.specs.Prelude.{◌≡◌, ℕ, IfSome, false, true, List, Option}
use Rattle.aho_backward.specs.Searcher.{IsBackwardOf}
use Rattle.aho_backward.specs.declared.backward.Backward.{Backward}
use Rattle.aho_cover.specs.Covers.{IsUnbegunWith}
use Rattle.aho_cover.specs.declared.progress.CoverProgress.{CoverProgress}
use Rattle.acredact.specs.Secrets.{CanRedact, Redactor, redactor_by, rule_of}
use Rattle.acredact.specs.declared.ways.Way.{Ghosts as Ways}

-- what walks backward is of these patterns, if there is anything
abbrev pub MayWalkBack : {B : Type 0} → Ghosts B → Option (Bor (Backward B)) → Patterns → Type 0
MayWalkBack H backward p = IfSome backward (λ searcher. IsBackwardOf H searcher.now p)

-- an automaton redacts so, with these replacements, and a walk backward in its place, if there is one
pub record IsRedactor {A B : Type 0} (G : Ghosts A) (H : Ghosts B) (automaton : A) (backward : Option (Bor (Backward B))) (replacements : List (Bor (List ℕ)))
    (r : Redactor) : Type 0 where
  pub of : G.is_of automaton r.patterns
  pub walks : MayWalkBack H backward r.patterns
  pub is : r ≡ redactor_by r.patterns false false replacements
  pub ready : CanRedact G automaton false replacements

-- an automaton covers so, of words alone or not, with pieces that are made by this rule, and the cover has not begun
pub record IsCovering {A : Type 0} (G : Ghosts A) (automaton : A) (progress : CoverProgress) (rule : PieceRule) (r : Redactor) : Type 0 where
  pub of : G.is_of automaton r.patterns
  pub covers : r.covers ≡ true
  pub chosen : r.words ≡ progress.words
  pub is : rule_of r ≡ rule
  pub unbegun : IsUnbegunWith progress.words G automaton progress

-- what holds of all by which a way redacts
abbrev pub IfBy : {X : Type 0} → (G : Ways X) → X → (G.Plan → Type 0) → Type 0
IfBy G way Holds = (plan : G.Plan) → G.by way plan → Holds plan
