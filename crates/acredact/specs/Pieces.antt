-- Which of the texts that are written in the place of patterns are clean, so that with what stands beside them they spell no pattern.
use Rattle.acredact.specs.Common.{All, Errors, Occurrence, Patterns, SinkGhosts, TellsBytes, folded_by, pieces_of, Bor}
use Rattle.std.specs.Prelude.{◌≡◌, ◌⊎◌, ℕ, ◌+◌, ◌-◌, ◌<◌, Bool, true, false, List, [], Option, Some, None, is_some, length, slice_index, slice_index_or}
use Rattle.aho_core.specs.Occurs.{OccursIn}
use Rattle.aho_core.specs.Patterns.{pattern_at}
use Rattle.aho_core.specs.Search.{plain_search}
use Rattle.aho_laws.specs.CoverLaws.{IsCleanPiece}
use Rattle.tool_parts.specs.Asked.{ArePatterns}
use Rattle.acredact.specs.Messages.{unclean_line}
use Rattle.acredact.specs.Secrets.{AreCleanBy, Redactor}
use Rattle.acredact.specs.Spelling.{IsSpelled, holds_byte}
use Rattle.acredact.specs.declared.clean.Flaw.{Flaw}
use Rattle.acredact.specs.declared.clean.Flaw.TheVariants.{Empty, Pseudonym, Spells}
use Rattle.acredact.specs.declared.clean.Judge.{Judge}
use Rattle.acredact.specs.declared.clean.Unclean.{Unclean}

-- these are the patterns by which pieces are judged
abbrev pub IsJudgeOf : Judge → Patterns → Type 0
IsJudgeOf judge p = ArePatterns p judge.ignore_case (pieces_of judge.words.now)

-- the bytes of a word are marked, as they are compared
abbrev pub IsMarked : Bool → List ℕ → List Bool → Type 0
IsMarked ignore_case word marks = All (λ byte. slice_index_or marks (folded_by ignore_case byte) false ≡ true) word

-- and those of all words
abbrev pub WordsAreMarked : Bool → List (Bor (List ℕ)) → List Bool → Type 0
WordsAreMarked ignore_case words marks = All (λ word. IsMarked ignore_case word.now marks) words

-- what was marked stays so
abbrev pub StayMarked : List Bool → List Bool → Type 0
StayMarked marks marks' = (place : ℕ) → slice_index_or marks place false ≡ true → slice_index_or marks' place false ≡ true

-- a pattern holds the first or the last byte of a piece, or occurs in it
abbrev pub Spoils : Patterns → List ℕ → ℕ → Type 0
Spoils p piece number =
    (holds_byte p.ignore_case (pattern_at p number) (slice_index piece 0) ≡ true)
    ⊎ ((holds_byte p.ignore_case (pattern_at p number) (slice_index piece (length piece - 1)) ≡ true)
    ⊎ ((m : Occurrence) × OccursIn p (plain_search piece) m × (m.pattern ≡ number)))

-- this is why a piece is not clean; patterns are told by their numbers from 1 on
abbrev pub IsFlaw : Patterns → List ℕ → Flaw → Type 0
IsFlaw p piece Empty = piece ≡ []
IsFlaw p piece Pseudonym = ⊥
IsFlaw p piece (Spells told) =
    (0 < length piece) × (number : ℕ) × (told ≡ number + 1) × (number < length p.words) × Spoils p piece number

-- what is answered of a piece: why it is not clean, and nothing where it is
abbrev pub IsFlawOrNone : Patterns → List ℕ → Option Flaw → Type 0
IsFlawOrNone p piece None = IsCleanPiece p piece
IsFlawOrNone p piece (Some flaw) = IsFlaw p piece flaw

-- the first pattern whose piece is not clean, and why it is not
pub record IsUnclean (p : Patterns) (pieces : List (List ℕ)) (unclean : Unclean) : Type 0 where
  pub number : ℕ
  pub told : unclean.number ≡ number + 1
  pub numbered : number < length p.words
  pub before : (other : ℕ) → other < number → IsCleanPiece p (slice_index_or pieces other [])
  pub flaw : IsFlaw p (slice_index_or pieces number []) unclean.flaw
  pub is_not : IsCleanPiece p (slice_index_or pieces number []) → ⊥

-- the first pattern whose piece is not clean, or that a pseudonym can spell
abbrev pub IsUncleanBy : (named : Bool) → Patterns → List (List ℕ) → Unclean → Type 0
IsUncleanBy false p pieces unclean = IsUnclean p pieces unclean
IsUncleanBy true p pieces unclean = IsSpelled p.ignore_case p.words unclean

-- what is answered of a cover: that, and nothing where there is none; by the other kinds nothing is judged
abbrev pub IsJudgedBy : Patterns → (covers named : Bool) → List (List ℕ) → Option Unclean → Type 0
IsJudgedBy p covers named pieces None = covers ≡ true → AreCleanBy named p pieces
IsJudgedBy p covers named pieces (Some unclean) = (covers ≡ true) × IsUncleanBy named p pieces unclean

abbrev pub IsJudged : Redactor → Option Unclean → Type 0
IsJudged r answer = IsJudgedBy r.patterns r.covers (is_some r.key) r.pieces answer

module _ {E : Type 0} (K : SinkGhosts E) (strict : Bool) where
  -- that is told as a line, but where it is to be refused
  abbrev pub TellsUnclean : Option Unclean → (errors errors' : Errors E) → Type 0
  TellsUnclean None errors errors' = errors' ≡ errors
  TellsUnclean (Some unclean) errors errors' = (strict ≡ false) × TellsBytes K errors errors' (unclean_line unclean)

  -- what is told of pieces before a file is read: nothing where they are clean, and else a line
  abbrev pub TellsOfPieces : Redactor → (errors errors' : Errors E) → Type 0
  TellsOfPieces r errors errors' = (answer : Option Unclean) × IsJudged r answer × TellsUnclean answer errors errors'
