-- How far an iterator over a stream has come, once these bytes were given.
use Rattle.std.specs.Prelude.{◌≡◌, ℕ, ◌+◌, ◌-◌, ◌*◌, ◌^◌, ◌<◌, ◌≤◌, ◌||◌, ◌&&◌, max, min, is_none, MatchBool, Bool, true, false, List, [], ◌++◌, Option, Some, None, length, slice_range}
use Rattle.aho_core.specs.Answer.{IsAnswer}
use Rattle.aho_core.specs.Laws.{BestAfter, first_is_answer, longest, shortest}
use Rattle.aho_core.specs.Occurrence.{Occurrence}
use Rattle.aho_core.specs.Patterns.{Patterns}
use Rattle.aho_core.specs.Search.{Search}
use Rattle.aho_core.specs.declared.search.Anchored.TheVariants.{No}
use Rattle.aho_core.specs.declared.search.MatchKind.{MatchKind}
use Rattle.aho_core.specs.declared.search.MatchKind.TheVariants.{Standard}
use Rattle.aho_prefilter.specs.Candidate.{NoneStartsBefore}
use Rattle.aho_devices.specs.Buffer.{Buffered, capacity_for}
use Rattle.aho_automaton.specs.declared.automaton.Automaton.{Ghosts}
use Rattle.aho_stream.specs.declared.progress.StreamProgress.{StreamProgress}

-- the search of a stream's bytes from a place on: of all that follows, not anchored, not earliest
abbrev pub search_from : ℕ → List ℕ → Search
search_from from bytes = record { haystack = bytes; start = from; end = length bytes; anchored = No; earliest = false }

-- the most bytes that a stream may give: 2^63 - 1
abbrev pub greatest_position : ℕ
greatest_position = 9223372036854775807

-- what a stream may still give: nothing, once its end was seen, and else any bytes
abbrev pub MayFollow : Bool → List ℕ → Type 0
MayFollow true more = more ≡ []
MayFollow false more = Unit {0}

-- how many bytes a buffer keeps for patterns of these lengths
abbrev pub kept_for : List ℕ → ℕ
kept_for lengths = max 1 (longest lengths)

-- bytes end in these
abbrev pub EndsWith : List ℕ → List ℕ → Type 0
EndsWith bytes last = (gone : List ℕ) × (bytes ≡ gone ++ last)

-- what is said of all that was given, by how much it was and by what the buffer holds
abbrev pub ForGiven : StreamProgress → (List ℕ → Type 0) → Type 0
ForGiven s says = (given : List ℕ) → length given ≡ s.read → EndsWith given s.buffer.bytes → says given

-- what was walked since the search under way began
abbrev pub word_of : StreamProgress → List ℕ → List ℕ
word_of s given = slice_range given s.origin s.walked

-- whether a match in hand is given: under Standard at once, under the leftmost kinds where the state is dead
abbrev pub is_settled : MatchKind → Bool → Option Occurrence → Bool
is_settled kind dead None = false
is_settled kind dead (Some m) = first_is_answer kind false || dead

-- the same, of a state and a match of this automaton
abbrev pub settles : {S : Type 0} → Ghosts S → S → ℕ → Option Occurrence → Bool
settles A automaton sid in_hand = is_settled (A.kind automaton) (A.dead automaton sid) in_hand

-- the match in hand is not settled
abbrev pub IsUnsettled : {S : Type 0} → Ghosts S → S → StreamProgress → Type 0
IsUnsettled A automaton s = settles A automaton s.sid s.in_hand ≡ false

-- it is given next: it is settled, or the end was seen
abbrev pub IsDue : {S : Type 0} → Ghosts S → S → StreamProgress → Type 0
IsDue A automaton s = (s.ended || settles A automaton s.sid s.in_hand) ≡ true

-- no match is in hand, and the state that is held is a start
abbrev pub starts_over : {S : Type 0} → Ghosts S → S → StreamProgress → Bool
starts_over A automaton s = is_none s.in_hand && A.starts automaton s.sid

-- then all was reported
abbrev pub ReportsAtStart : {S : Type 0} → Ghosts S → S → StreamProgress → Type 0
ReportsAtStart A automaton s = starts_over A automaton s ≡ true → s.read ≤ s.reported

-- the place up to which what was walked is outside of every match: all of it, or all but as many bytes as a roll keeps
abbrev pub IsOutside : {S : Type 0} → Ghosts S → S → StreamProgress → ℕ → Type 0
IsOutside A automaton s end = MatchBool (starts_over A automaton s) (end ≡ s.walked) (end ≡ s.walked - s.buffer.least)

-- before the first byte
abbrev pub unbegun : Buffered → ℕ → ℕ → StreamProgress
unbegun buffer start limit = record {
  buffer = buffer;
  read = 0;
  limit = limit;
  from = 0;
  origin = 0;
  told = 0;
  reported = 0;
  walked = 0;
  position = 0;
  sid = start;
  start = start;
  in_hand = None;
  patience = 0;
  ended = false;
  refused = false;
}

-- bytes were reported up to a place
abbrev pub reported_to : StreamProgress → ℕ → StreamProgress
reported_to s end = record s { told = s.reported; reported = end }

-- a match was given, by its places from where its search began: the next search begins at its end
abbrev pub given_on : StreamProgress → Occurrence → StreamProgress
given_on s m = record s {
  told = s.origin + m.start;
  reported = s.origin + m.end;
  from = s.origin + m.end;
  origin = s.origin + m.end;
  walked = s.origin + m.end;
  sid = s.start;
  in_hand = None;
}

-- so many bytes were passed over, and not walked: the search under way begins behind them, with this patience left
abbrev pub passed_on : StreamProgress → ℕ → ℕ → StreamProgress
passed_on s count patience = record s { origin = s.walked + count; walked = s.walked + count; patience = patience }

-- bytes alone were passed over, if any
abbrev pub OnlyPasses : StreamProgress → StreamProgress → Type 0
OnlyPasses s s' = s' ≡ record s { origin = s'.origin; walked = s'.walked; patience = s'.patience }

-- the walk alone went on, and the search under way may begin later
abbrev pub OnlyWalks : StreamProgress → StreamProgress → Type 0
OnlyWalks s s' =
    s' ≡ record s { origin = s'.origin; walked = s'.walked; position = s'.position; sid = s'.sid; in_hand = s'.in_hand; patience = s'.patience }

-- a match in hand lies in what was walked. The walk stands at its end under Standard, and else at most one byte farther from
-- its start than the longest pattern is long
abbrev pub IsInHand : MatchKind → ℕ → StreamProgress → Option Occurrence → Type 0
IsInHand kind most s None = Unit {0}
IsInHand kind most s (Some m) = (s.origin + m.end ≤ s.walked) × (s.walked ≤ s.origin + m.start + most + 1) × (kind ≡ Standard → s.walked ≤ s.origin + m.end)

-- between two places of these bytes nothing begins that occurs, whatever bytes follow
abbrev pub NothingBegins : Patterns → List ℕ → ℕ → ℕ → Type 0
NothingBegins p bytes from place = (more : List ℕ) → NoneStartsBefore p (bytes ++ more) from (length (bytes ++ more)) place

-- the search of a stream by this automaton has come so far, once these bytes were given and these look-ups were made. Places
-- count from the first byte given, those of a match in hand from where the search under way began
pub record IsAfter {S : Type 0} (A : Ghosts S) (automaton : S) (p : Patterns) (lookups : ℕ) (s : StreamProgress) (given : List ℕ) : Type 0 where
  pub no_empty : 1 ≤ shortest (A.lengths automaton)
  pub sized : longest (A.lengths automaton) < 2 ^ 64
  -- the start of a search
  pub start_is : A.valid automaton s.start
  pub start_shallow : A.depth automaton s.start ≡ 0
  pub start_held : A.held automaton p No [] s.start
  -- what was given; the buffer holds the last of it, among that all that was not reported, and the last chunk
  pub count : s.read ≡ length given
  pub limited : s.read ≤ s.limit
  pub bounded : s.limit < 2 ^ 63
  pub least : s.buffer.least ≡ kept_for (A.lengths automaton)
  pub size : s.buffer.size ≡ capacity_for (kept_for (A.lengths automaton))
  pub enough : min s.buffer.least s.read ≤ length s.buffer.bytes
  pub last : EndsWith given s.buffer.bytes
  pub kept : s.read ≤ s.told + length s.buffer.bytes
  -- the order of the places
  pub told_reported : s.told ≤ s.reported
  pub from_reported : s.from ≤ s.reported
  pub from_origin : s.from ≤ s.origin
  pub origin_walked : s.origin ≤ s.walked
  pub reported_walked : s.reported ≤ s.walked
  pub walked_read : s.walked ≤ s.read
  -- under Standard each byte was walked once at most, and else with each match as many again as the longest pattern has, at
  -- most; two look-ups for each pay for all
  pub position : s.position ≤ s.walked + longest (A.lengths automaton) * s.from
  pub once : p.kind ≡ Standard → s.position ≤ s.walked
  -- where streams over the automaton do not skip, each byte was walked
  pub each : A.skips_streams automaton ≡ false → s.walked ≤ s.position
  pub paid : lookups + A.depth automaton s.sid ≤ 2 * s.position
  -- between the last match and where the search under way began nothing begins
  pub apart : NothingBegins p given s.from s.origin
  -- what is held there, and the best of what was walked from there on
  pub is_state : A.valid automaton s.sid
  pub held_is : A.held automaton p No (word_of s given) s.sid
  pub best_is : BestAfter p No (word_of s given) s.in_hand
  pub in_hand_is : IsInHand p.kind (longest (A.lengths automaton)) s s.in_hand
  -- whatever comes, the next match starts at what was reported or later
  pub clear : (more : List ℕ) (m : Occurrence) → MayFollow s.ended more
      → IsAnswer p (search_from s.from (given ++ more)) (Some m) → s.reported ≤ m.start
  -- once the limit was answered, all was walked and the end was not seen
  pub stopped : s.refused ≡ true → (s.walked ≡ s.read) × (s.ended ≡ false) × (p.kind ≡ Standard → s.in_hand ≡ None)

-- so far for some patterns of the automaton, and some bytes given
abbrev pub IsUnderWay : {S : Type 0} → Ghosts S → S → ℕ → StreamProgress → Type 0
IsUnderWay A automaton lookups s = (p : Patterns) × (given : List ℕ) × A.is_of automaton p × IsAfter A automaton p lookups s given

-- as far as before, whatever was given: nothing was read in between
abbrev pub StaysAfter : {S : Type 0} → Ghosts S → S → ℕ → StreamProgress → ℕ → StreamProgress → Type 0
StaysAfter A automaton lookups s lookups' s' = (p : Patterns) (given : List ℕ) → A.is_of automaton p
    → IsAfter A automaton p lookups s given → IsAfter A automaton p lookups' s' given

-- before the first byte, whatever patterns the automaton is of
abbrev pub IsUnbegun : {S : Type 0} → Ghosts S → S → StreamProgress → Type 0
IsUnbegun A automaton s = (p : Patterns) → A.is_of automaton p → IsAfter A automaton p 0 s []
