-- What a check looks for in texts, and what it sees of one and tells of it.
use Rattle.acredact.specs.Common.{Ghosts, MayBe, Memory, Occurrence, Patterns, PositionLimit, Read, SourceGave, SourceGhosts, StreamError}
use Rattle.std.specs.Prelude.{◌≡◌, ◌⊎◌, ℕ, ◌||◌, ◌&&◌, Bool, MatchBool, true, false, List, [], ◌∷◌, Option, None, Some, Result, Ok, Err, IfErr, IfOk}
use mathlib.Core.Logic.{inl, inr}
use Rattle.aho_core.specs.declared.error.stream.StreamError.TheVariants.{Match, Write, WriteZero}
use Rattle.acredact.specs.Faults.{IsReadReason}
use Rattle.acredact.specs.Files.{BeginsWriting, unread_line}
use Rattle.acredact.specs.Findings.{BeginsFindings, LineSought, TellsText}
use Rattle.acredact.specs.Messages.{output_line}
use Rattle.acredact.specs.Secrets.{CanDoStreams, CountsFor, Redactor, redactor_by}
use Rattle.acredact.specs.declared.failure.Failure.{Failure}
use Rattle.acredact.specs.declared.look.Look.{Look}
use Rattle.acredact.specs.declared.look.Look.TheVariants.{Clean, Found, Output, Unread}
use Rattle.acredact.specs.declared.look.Verdict.{Verdict}

-- an automaton of some patterns can search streams, for all that occurs or for words
abbrev pub CanLook : {A : Type 0} → Ghosts A → A → (words : Bool) → Type 0
CanLook G automaton words = CanDoStreams G automaton words (Unit {0})

-- what counts for a check counts for a cover: all that occurs, or words alone
abbrev pub sought : Patterns → (words : Bool) → Redactor
sought p words = redactor_by p true words []

-- something counts in these bytes, or nothing does
abbrev pub SomeCounts : Redactor → List ℕ → Type 0
SomeCounts r bytes = (m : Occurrence) × CountsFor r bytes m

abbrev pub NoneCounts : Redactor → List ℕ → Type 0
NoneCounts r bytes = (m : Occurrence) → CountsFor r bytes m → ⊥

-- something counts in a text of which this was given, whatever bytes may follow; or it was given to its end, and nothing does
abbrev pub CountsInGiven : Redactor → (found : Bool) → (given : List ℕ) → (ended : Bool) → Type 0
CountsInGiven r found given ended =
    MatchBool found ((bytes : List ℕ) → MayBe given ended bytes → SomeCounts r bytes) ((ended ≡ true) × NoneCounts r given)

-- why a stream is not looked through: a read fails, it is too long, or memory runs out
abbrev pub IsLookEnd : StreamError → Type 0
IsLookEnd (Match cause) = ⊥
IsLookEnd (Read fault) = Unit {0}
IsLookEnd (Write fault) = ⊥
IsLookEnd WriteZero = ⊥
IsLookEnd Memory = Unit {0}
IsLookEnd PositionLimit = Unit {0}

-- a source gave some bytes, and something counts in them or nothing does
pub record LooksAt {R : Type 0} (S : SourceGhosts R) (r : Redactor) (result : Result Bool StreamError) (source source' : R) : Type 0 where
  pub given : List ℕ
  pub ended : Bool
  pub gives : SourceGave S source source' given ended
  pub seen : IfOk result (λ found. CountsInGiven r found given ended)
  pub only : IfErr result IsLookEnd

-- what a first find says
abbrev pub occurs_of : Option (Result Occurrence StreamError) → Result Bool StreamError
occurs_of None = Ok false
occurs_of (Some (Ok m)) = Ok true
occurs_of (Some (Err error)) = Err error

-- what is seen of a file: whether something was found, and whether it was read to its end or up to that
abbrev pub verdict_as : (found all : Bool) → Verdict
verdict_as found all = record { found = found; all = all }

abbrev pub verdict_of : Look → Verdict
verdict_of Clean = verdict_as false true
verdict_of Found = verdict_as true true
verdict_of (Unread reason) = verdict_as false false
verdict_of Output = verdict_as false false

-- what is seen of files, and then of others
abbrev pub both_seen : (first more : Verdict) → Verdict
both_seen first more = verdict_as (first.found || more.found) (first.all && more.all)

-- what is told of a file
abbrev pub look_lines : List ℕ → Look → List (List ℕ)
look_lines name Clean = []
look_lines name Found = []
look_lines name (Unread reason) = unread_line name reason ∷ []
look_lines name Output = output_line name ∷ []

-- what is looked for: what counts in a text, or what is covered in its lines, which is told
abbrev pub Sought : Type 0
Sought = Redactor ⊎ LineSought

-- this was found in a text, of which such bytes were given, up to its end or not, and this was told of it
abbrev pub IsSeen : Sought → (name : List ℕ) → (found : Bool) → (given : List ℕ) → (ended : Bool) → (part : List ℕ) → Type 0
IsSeen (inl r) name found given ended part = CountsInGiven r found given ended
IsSeen (inr s) name found given ended part = TellsText s name found given ended part

-- or a beginning of what tells of it
abbrev pub BeginsToTell : Sought → (name given : List ℕ) → (ended : Bool) → (part : List ℕ) → Type 0
BeginsToTell (inl r) name given ended part = Unit {0}
BeginsToTell (inr s) name given ended part = BeginsFindings s name given ended part

-- by what the text was found to be
abbrev pub IsLook : Sought → (name : List ℕ) → Look → (given : List ℕ) → (ended : Bool) → (part : List ℕ) → Type 0
IsLook s name Clean given ended part = IsSeen s name false given ended part
IsLook s name Found given ended part = IsSeen s name true given ended part
IsLook s name (Unread reason) given ended part = BeginsToTell s name given ended part
IsLook s name Output given ended part = BeginsToTell s name given ended part

abbrev pub LooksSo : Sought → (name : List ℕ) → Result Look Failure → (given : List ℕ) → (ended : Bool) → (part : List ℕ) → Type 0
LooksSo s name (Ok look) given ended part = IsLook s name look given ended part
LooksSo s name (Err failure) given ended part = BeginsToTell s name given ended part

-- what comes of a look at a text: some of it was read, and this is so of that
abbrev pub LookedText : Sought → (name : List ℕ) → Result Look Failure → (left left' held held' : Option (List ℕ)) → Type 0
LookedText s name result left left' held held' =
    BeginsWriting (λ given ended part. LooksSo s name result given ended part) left left' held held'

-- why the end of one that was opened may not be reached
abbrev pub IsReadLook : Look → Type 0
IsReadLook Clean = Unit {0}
IsReadLook Found = Unit {0}
IsReadLook (Unread reason) = IsReadReason reason
IsReadLook Output = ⊥
