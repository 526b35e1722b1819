-- What a redaction is, and what it means that no secret is passed on.
use Rattle.acredact.specs.Common.{Appends, Bor, Ghosts, IsMember, MayBe, Occurrence, Patterns, PieceRule, Standard, StartsWith, pieces_of}
use Rattle.std.specs.Prelude.{◌≡◌, ℕ, ◌<◌, ◌≤◌, Bool, MatchBool, List, Option, Some, None, false, is_some, length, true}
use Rattle.aho_core.specs.Cover.{AreRunsOf, IsCovered}
use Rattle.aho_core.specs.Iteration.{AreFinds}
use Rattle.aho_core.specs.Occurs.{Occurs, OccursIn}
use Rattle.aho_core.specs.Replacement.{replaced_by}
use Rattle.aho_core.specs.Search.{plain_search}
use Rattle.aho_core.specs.declared.search.Anchored.TheVariants.{No}
use Rattle.aho_laws.specs.CoverLaws.{AreClean, kept, uncovered}
use Rattle.aho_cover.specs.Covers.{MayGoOn, covered_up_to}
use Rattle.aho_cover.specs.Pieces.{fixed_rule, piece_in}
use Rattle.aho_cover.specs.Words.{CountsIn, decided_of}
use Rattle.acredact.specs.Pseudonyms.{pseudonym_rule}
use Rattle.acredact.specs.Spelling.{NoneAreSpelled}
use Rattle.aho_stream.specs.StreamRun.{CanBegin}

-- two ranges share a byte
abbrev pub Overlaps : Occurrence → Occurrence → Type 0
Overlaps m o = (m.start < o.end) × (o.start < m.end)

-- some of these ranges shares a byte with a range
abbrev pub IsTouched : List Occurrence → Occurrence → Type 0
IsTouched ms o = (m : Occurrence) × IsMember ms m × Overlaps m o

-- wherever a pattern occurs in the bytes, some byte of it lies in a range that is replaced
pub record NoneIsWhole (p : Patterns) (bytes : List ℕ) (ranges : List Occurrence) : Type 0 where
  pub touched : (o : Occurrence) → Occurs p No bytes 0 (length bytes) o → IsTouched ranges o

-- no pattern occurs anywhere
abbrev pub NoneOccurs : Patterns → List ℕ → Type 0
NoneOccurs p bytes = (m : Occurrence) → OccursIn p (plain_search bytes) m → ⊥

-- the key of pseudonyms, and whether runs that differ only in the case of letters have the same
pub record Keyed : Type 0 where
  pub bytes : List ℕ
  pub ignore_case : Bool

-- what is redacted: some patterns, whether by a cover, whether of that words alone, and the text that is written in the place of each
-- pattern; or, of a cover, by a key a pseudonym in the place of each run
pub record Redactor : Type 0 where
  pub patterns : Patterns
  pub covers : Bool
  pub words : Bool
  pub pieces : List (List ℕ)
  pub key : Option Keyed

abbrev pub redactor_by : Patterns → (covers words : Bool) → List (Bor (List ℕ)) → Redactor
redactor_by p covers words replacements =
    record { patterns = p; covers = covers; words = words; pieces = pieces_of replacements; key = None }

-- what counts in a text: each occurrence of a pattern, or each that is a word, beside which no letter, digit or `_` stands
abbrev pub CountsFor : Redactor → List ℕ → Occurrence → Type 0
CountsFor r text = CountsIn r.words r.patterns text

-- all bytes of what counts lie in ranges that are replaced, and no other byte does. Where all that occurs counts, what is kept are
-- just the bytes that lie in no occurrence
pub record NoByteIsKept (r : Redactor) (text : List ℕ) (ranges : List Occurrence) : Type 0 where
  pub hidden : (at : ℕ) → IsCovered (CountsFor r text) at → IsCovered (IsMember ranges) at
  pub only : (at : ℕ) → IsCovered (IsMember ranges) at → IsCovered (CountsFor r text) at
  pub stays : r.words ≡ false → kept text ranges ≡ uncovered r.patterns text

-- a key is that of covers alone
abbrev pub key_of_cover : Bool → Option Keyed → Option Keyed
key_of_cover false key = None
key_of_cover true key = key

-- what is written in the place of a range: the text of its pattern, or the pseudonym of its bytes
abbrev pub rule_by : Option Keyed → List (List ℕ) → PieceRule
rule_by None pieces = fixed_rule pieces
rule_by (Some key) pieces = pseudonym_rule key.ignore_case key.bytes

abbrev pub rule_of : Redactor → PieceRule
rule_of r = rule_by r.key r.pieces

-- what is written spells no pattern with what stands beside it: each text is clean, or no pseudonym can spell one
abbrev pub AreCleanBy : (named : Bool) → Patterns → List (List ℕ) → Type 0
AreCleanBy false p pieces = AreClean p pieces
AreCleanBy true p pieces = NoneAreSpelled p.ignore_case p.words

-- what holds of the patterns of an automaton
abbrev pub IfOf : {A : Type 0} → Ghosts A → A → (Patterns → Type 0) → Type 0
IfOf G automaton Holds = (p : Patterns) → G.is_of automaton p → Holds p

-- the ranges of a text that are replaced: the runs of its cover, or else its finds
abbrev pub AreReplaced : Redactor → List ℕ → List Occurrence → Type 0
AreReplaced r text ranges =
    MatchBool r.covers (AreRunsOf (CountsFor r text) ranges) (AreFinds r.patterns (plain_search text) None ranges)

-- no secret is left: of a cover no byte of one, and else none whole
abbrev pub NoSecretLeft : Redactor → List ℕ → List Occurrence → Type 0
NoSecretLeft r text ranges = MatchBool r.covers (NoByteIsKept r text ranges) (NoneIsWhole r.patterns text ranges)

-- a text with its ranges replaced, and no secret left. Where what is written in their places is clean, a cover's output has none either,
-- but for one of words alone: there what was no word may be one beside such a text
pub record IsRedaction (r : Redactor) (text redaction : List ℕ) : Type 0 where
  pub ranges : List Occurrence
  pub found : AreReplaced r text ranges
  pub safe : NoSecretLeft r text ranges
  pub is : redaction ≡ replaced_by text ranges (piece_in (rule_of r) text)
  pub clean : r.covers ≡ true → r.words ≡ false → AreCleanBy (is_some r.key) r.patterns r.pieces → NoneOccurs r.patterns redaction

-- a beginning of the redaction of a text of which these bytes were read, whatever bytes follow: none once its end was seen
abbrev pub BeginsRedaction : Redactor → List ℕ → Bool → List ℕ → Type 0
BeginsRedaction r given ended part =
    (text : List ℕ) → MayBe given ended text → (redaction : List ℕ) × IsRedaction r text redaction × StartsWith redaction part

-- each byte given from a place on lies in what counts, or is among the last ones, that begin a pattern. Where words alone count, the last
-- byte that was given waits for the next
abbrev pub IsPromptUpTo : Redactor → List ℕ → ℕ → Type 0
IsPromptUpTo r given place = (at : ℕ) → place ≤ at → at < length (decided_of r.words given) → (IsCovered (CountsFor r given) at → ⊥)
    → MayGoOn r.patterns (decided_of r.words given) at

-- the redaction was written up to a place of all texts that begin with the bytes given
abbrev pub IsWrittenUpTo : Redactor → List ℕ → Bool → ℕ → (held held' : Option (List ℕ)) → Type 0
IsWrittenUpTo r given ended place held held' = (text : List ℕ) (ranges : List Occurrence)
    → MayBe given ended text → AreReplaced r text ranges
    → Appends held held' (covered_up_to text place 0 ranges (piece_in (rule_of r) text))

-- an automaton of some patterns can search streams, or cover them, and this is so besides
pub record CanDoStreams {A : Type 0} (G : Ghosts A) (automaton : A) (covers : Bool) (Besides : Type 0) : Type 0 where
  pub patterns : Patterns
  pub of : G.is_of automaton patterns
  pub begins : CanBegin G automaton
  pub standard : covers ≡ true → G.kind automaton ≡ Standard
  pub besides : Besides

-- for a redaction there are as many replacements
abbrev pub CanRedact : {A : Type 0} → Ghosts A → A → (covers : Bool) → List (Bor (List ℕ)) → Type 0
CanRedact G automaton covers replacements = CanDoStreams G automaton covers (length replacements ≡ length (G.lengths automaton))
