-- How occurrences, in the order in which they start, are joined to runs.
use Rattle.std.specs.Prelude.{◌≡◌, ◌⊎◌, ◌<◌, ◌≤◌, max, List, [], ◌∷◌, ◌++◌, Option, None, Some}
use Rattle.aho_core.specs.Occurrence.{Occurrence}
use Rattle.secret_rules.specs.declared.joining.Open.{Open}

-- an occurrence as a run that is being joined
abbrev pub opened : Occurrence → Open
opened m = record { longest = m; end = m.end }

-- a run that is being joined, as it is told: by the number of the longest occurrence that begins where it does
abbrev pub closed : Open → Occurrence
closed hand = record { pattern = hand.longest.pattern; start = hand.longest.start; end = hand.end }

-- an occurrence begins where another does, and is longer, or as long and of a smaller number
abbrev pub Beats : Occurrence → Occurrence → Type 0
Beats m longest =
    (m.start ≡ longest.start) × ((longest.end < m.end) ⊎ ((m.end ≡ longest.end) × (m.pattern < longest.pattern)))

-- a run with an occurrence that touches it
pub record IsGrown (hand : Open) (m : Occurrence) (grown : Open) : Type 0 where
  pub end : grown.end ≡ max hand.end m.end
  pub named : Beats m hand.longest → grown.longest ≡ m
  pub kept : (Beats m hand.longest → ⊥) → grown.longest ≡ hand.longest

-- one more occurrence is joined to the run in hand, or that run ends before it, or there is none
abbrev pub JoinsOne : Option Open → Occurrence → List Occurrence → List Occurrence → Open → Type 0
JoinsOne None m runs runs' hand' = (runs' ≡ runs) × (hand' ≡ opened m)
JoinsOne (Some hand) m runs runs' hand' =
    ((m.start ≤ hand.end) × (runs' ≡ runs) × IsGrown hand m hand')
    ⊎ ((hand.end < m.start) × (runs' ≡ runs ++ closed hand ∷ []) × (hand' ≡ opened m))

-- the runs with the one in hand
abbrev pub with_hand : List Occurrence → Option Open → List Occurrence
with_hand runs None = runs
with_hand runs (Some hand) = runs ++ closed hand ∷ []
