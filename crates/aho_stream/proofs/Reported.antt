-- What a chunk tells, and how far the iterator has come with it.
use Rattle.std.proofs.Common.{◌≡◌, ◌≢◌, ℕ, ◌+◌, ◌-◌, ◌<◌, ◌≤◌, ◌||◌, ◌&&◌, inl, inr, Bool, true, false, List, [], ◌++◌, length, map, refl, sym, ◌∙◌, ap, subst, arith, append-nil}
use Rattle.std.specs.Prelude.{Option, Some, None, IfSome, MatchBool, is_none}
use Rattle.std.proofs.Math.Bool.{or-false}
use Rattle.std.proofs.lemmas.Bool.{cases_lt, cases_Bool}
use Rattle.aho_core.specs.Answer.{IsAnswer}
use Rattle.aho_core.specs.Laws.{BestAfter, Reads, longest, shortest}
use Rattle.aho_core.specs.Occurrence.{Occurrence}
use Rattle.aho_core.specs.Patterns.{Patterns}
use Rattle.aho_core.specs.declared.search.Anchored.{Anchored}
use Rattle.aho_core.specs.declared.search.Anchored.TheVariants.{No}
use Rattle.aho_core.specs.declared.search.MatchKind.{MatchKind}
use Rattle.aho_core.specs.declared.search.MatchKind.TheVariants.{Standard}
use Rattle.aho_automaton.proofs.Places.{length_part, moved}
use Rattle.aho_automaton.specs.declared.automaton.Automaton.{Ghosts}
use Rattle.aho_stream.specs.After.{IsAfter, IsInHand, MayFollow, is_settled, search_from, word_of}
use Rattle.aho_stream.specs.Chunks.{DiesAt, TellsChunk, TellsMatch, TellsPlain}
use Rattle.aho_stream.specs.declared.progress.StreamProgress.{StreamProgress}
use Rattle.aho_stream.specs.declared.progress.StreamPiece.{StreamPiece}
use Rattle.aho_stream.specs.declared.progress.StreamPiece.TheVariants.{NonMatch, Match}
use Rattle.aho_stream.proofs.Afters.{after_given, after_reported}
use Rattle.aho_stream.proofs.PatternLengths.{occurs_some}
use Rattle.aho_stream.proofs.Deaths.{dies}
use Rattle.aho_stream.proofs.NextMatches.{MayFollow-nothing, answer_later, answer_sooner, answers_together, ends_later, found_at_end, found_dead, found_first, nothing_follows, starts_behind, starts_near, starts_near_found}
use Rattle.aho_stream.proofs.Walks.{near_unsettled, unsettled_leftmost, why_settled}

module _ {S : Type 0} (A : Ghosts S) (automaton : S) (p : Patterns) where
  abbrev lengths : List ℕ
  lengths = A.lengths automaton

  abbrev valid : ℕ → Type 0
  valid = A.valid automaton

  abbrev held : Anchored → List ℕ → ℕ → Type 0
  held = A.held automaton p

  abbrev depth : ℕ → ℕ
  depth = A.depth automaton

  abbrev After : ℕ → StreamProgress → List ℕ → Type 0
  After lookups s given = IsAfter A automaton p lookups s given

  -- whatever follows, the next match starts at this place or later
  abbrev IsClearTo : StreamProgress → List ℕ → ℕ → Type 0
  IsClearTo s given end = (more : List ℕ) (m : Occurrence) → MayFollow s.ended more → IsAnswer p (search_from s.from (given ++ more)) (Some m) → end ≤ m.start

  -- bytes were told up to a place, where some were left
  pub reported : (lookups : ℕ) (s s' : StreamProgress) (given : List ℕ) (end : ℕ) (answer : Option StreamPiece) → After lookups s given → end ≤ s.walked
      → IsClearTo s given end
      → (s.reported < end → (answer ≡ Some NonMatch) × (s' ≡ record s { told = s.reported; reported = end }))
      → (end ≤ s.reported → (answer ≡ None) × (s' ≡ s))
      → After lookups s' given × IfSome answer (TellsChunk p s s' given)
  reported lookups s s' given end answer a within clear some none = elim (cases_lt s.reported end) [
    | inl less ↦
        (let told = some less in (
          subst (λ (t : StreamProgress). After lookups t given) (sym told.1) (after_reported A automaton p lookups s given end a (omega (arith, less)) within clear),
          subst (λ (r : Option StreamPiece). IfSome r (TellsChunk p s s' given)) (sym told.0)
              (subst (λ (t : StreamProgress). TellsPlain p s t given) (sym told.1)
              (record { some = omega (arith, less); read = omega (arith, within, a.walked_read, a.count); told = refl; from = refl; clear = clear })),
        ))
    | inr ge ↦
        (let told = none ge in (
          subst (λ (t : StreamProgress). After lookups t given) (sym told.1) a,
          subst (λ (r : Option StreamPiece). IfSome r (TellsChunk p s s' given)) (sym told.0) tt,
        ))
  ]

  -- what is outside of every match where none is given yet
  pub outside_clear : {kind : MatchKind} {list : ℕ → List ℕ} {dead starts : ℕ → Bool} → Reads p kind lengths held list dead starts
      → (lookups : ℕ) (s : StreamProgress) (given : List ℕ) (end : ℕ) → After lookups s given → is_settled kind (dead s.sid) s.in_hand ≡ false → (s.ended ≡ true → s.in_hand ≡ None) → s.walked ≡ s.read
      → (s.ended ≡ true → end ≡ s.read)
      → (s.ended ≡ false → MatchBool (is_none s.in_hand && starts s.sid) (end ≡ s.walked) (end ≡ s.walked - s.buffer.least))
      → (end ≤ s.walked) × IsClearTo s given end
  outside_clear {kind} {dead} {starts} laws lookups s given end a going free walked ended open_end = elim (cases_Bool s.ended) [
    | inl ends ↦ (
      omega (arith, ended ends, walked),
      λ more m follows answer.
          let none = nothing_follows s.ended more ends follows in
          let long : length (given ++ more) ≡ length given = ap (λ (xs : List ℕ). length (given ++ xs)) none ∙ ap length (append-nil given) in
          let none_walked = subst (BestAfter p No (word_of s given)) (free ends) a.best_is in
          absurd (omega (arith, ends_later p given more s.origin s.walked a.origin_walked within m none_walked (later more m answer), answer.0.before_end, long, walked, a.count)),
    )
    | inr goes ↦ by_hand s.in_hand going a.best_is (open_end goes)
  ]
    where
      within : s.walked ≤ length given
      within = omega (arith, a.walked_read, a.count)

      -- the search from where it began answers the same
      later : (more : List ℕ) (m : Occurrence) → IsAnswer p (search_from s.from (given ++ more)) (Some m) → IsAnswer p (search_from s.origin (given ++ more)) (Some m)
      later more m answer = answer_later p given more s.from s.origin m a.from_origin a.apart answer

      behind : end ≡ s.walked - s.buffer.least → ((more : List ℕ) (m : Occurrence) → IsAnswer p (search_from s.from (given ++ more)) (Some m) → s.walked ≤ m.start + longest lengths) → (end ≤ s.walked) × IsClearTo s given end
      behind at near = (omega (arith, at), λ more m follows answer. omega (arith, at, a.least, near more m answer))

      by_hand : (found : Option Occurrence) → is_settled kind (dead s.sid) found ≡ false → BestAfter p No (word_of s given) found
          → MatchBool (is_none found && starts s.sid) (end ≡ s.walked) (end ≡ s.walked - s.buffer.least) → (end ≤ s.walked) × IsClearTo s given end
      by_hand None going none at_end = elim (cases_Bool (starts s.sid)) [
        | inl start ↦ (let at : end ≡ s.walked = subst (λ (b : Bool). MatchBool b (end ≡ s.walked) (end ≡ s.walked - s.buffer.least)) start at_end in
            (omega (arith, at), λ more m follows answer. omega (arith, at, starts_behind p given more s.origin s.walked a.origin_walked within laws s.sid m a.held_is start none (later more m answer))))
        | inr other ↦ behind (subst (λ (b : Bool). MatchBool b (end ≡ s.walked) (end ≡ s.walked - s.buffer.least)) other at_end)
            (λ more m answer. starts_near p given more s.origin s.walked a.origin_walked within lengths m laws.lengths_are none (later more m answer))
      ]
      by_hand (Some best) going is_best at_end =
          let leftmost = (unsettled_leftmost kind (dead s.sid) best going).0 in
          let size = length_part given s.origin s.walked within in
          let near = near_unsettled laws (word_of s given) s.sid best a.held_is going is_best in
          behind at_end (λ more m answer. starts_near_found p given more s.origin s.walked a.origin_walked within lengths best m laws.lengths_are (λ e. leftmost (laws.kind_is ∙ e)) is_best (omega (arith, near, size, a.origin_walked)) (later more m answer))

  -- the match in hand is in what was walked
  pub in_hand_within : (lookups : ℕ) (s : StreamProgress) (given : List ℕ) (m : Occurrence) → After lookups s given → s.in_hand ≡ Some m → (m.start ≤ m.end) × (s.origin + m.end ≤ s.walked)
  in_hand_within lookups s given m a in_hand =
      let best = subst (BestAfter p No (word_of s given)) in_hand a.best_is in
      (omega (arith, best.0.sized), (subst (IsInHand p.kind (longest lengths) s) in_hand a.in_hand_is).0)

  module _ {kind : MatchKind} {list : ℕ → List ℕ} {dead starts : ℕ → Bool} (laws : Reads p kind lengths held list dead starts) (lookups : ℕ) (s : StreamProgress) (given : List ℕ) (m : Occurrence) (a : After lookups s given)
      (in_hand : s.in_hand ≡ Some m) (due : (s.ended || is_settled kind (dead s.sid) s.in_hand) ≡ true) (walked : is_settled kind (dead s.sid) s.in_hand ≡ false → s.walked ≡ s.read) where
    within : s.walked ≤ length given
    within = omega (arith, a.walked_read, a.count)

    -- the answer of the search from where it began is that from the end of the last match
    sooner : (more : List ℕ) (answer : Option Occurrence) → IsAnswer p (search_from s.origin (given ++ more)) answer → IsAnswer p (search_from s.from (given ++ more)) answer
    sooner more answer is = answer_sooner p given more s.from s.origin answer a.from_origin a.apart is

    best : BestAfter p No (word_of s given) (Some m)
    best = subst (BestAfter p No (word_of s given)) in_hand a.best_is

    is_last : is_settled kind (dead s.sid) (Some m) ≡ false → (s.ended ≡ true) × (s.walked ≡ length given)
    is_last going =
        let unsettled = ap (is_settled kind (dead s.sid)) in_hand ∙ going in
        (sym (ap (λ (b : Bool). s.ended || b) unsettled ∙ or-false s.ended) ∙ due, walked unsettled ∙ a.count)

    -- under Standard it is settled as it ends where the walk stands, else as the state is dead
    settled_answers : (more : List ℕ) → is_settled kind (dead s.sid) (Some m) ≡ true → IsAnswer p (search_from s.from (given ++ more)) (Some (moved s.origin m))
    settled_answers more settled = elim (why_settled kind (dead s.sid) m settled) [
      | inl standard ↦
          (let i = subst (IsInHand p.kind (longest lengths) s) in_hand a.in_hand_is in
          let is : p.kind ≡ Standard = sym laws.kind_is ∙ standard in
          sooner more (Some (moved s.origin m)) (found_first p given more s.origin s.walked a.origin_walked within m is (omega (arith, i.0, i.2 is)) best))
      | inr died ↦ sooner more (Some (moved s.origin m)) (found_dead p given more s.origin s.walked a.origin_walked within laws s.sid m a.held_is died best)
    ]

    -- a match that is given is the next one
    pub in_hand_answers : (more : List ℕ) → MayFollow s.ended more → IsAnswer p (search_from s.from (given ++ more)) (Some (moved s.origin m))
    in_hand_answers more follows = elim (cases_Bool (is_settled kind (dead s.sid) (Some m))) [
      | inl settled ↦ settled_answers more settled
      | inr going ↦
          (let last = is_last going in
          let none = nothing_follows s.ended more last.0 follows in
          sooner more (Some (moved s.origin m)) (subst (λ (bytes : List ℕ). IsAnswer p (search_from s.origin bytes) (Some (moved s.origin m))) (sym (ap (λ (xs : List ℕ). given ++ xs) none ∙ append-nil given))
          (found_at_end p given s.origin s.walked (Some m) a.origin_walked last.1 best)))
    ]

    -- before the end was seen a leftmost kind gives it only where the state is dead
    in_hand_died : s.ended ≡ false → p.kind ≢ Standard → (place : ℕ) × DiesAt p given s.from place
    in_hand_died goes leftmost =
        let settled : is_settled kind (dead s.sid) (Some m) ≡ true = sym (ap (is_settled kind (dead s.sid)) in_hand) ∙ sym (ap (λ (b : Bool). b || is_settled kind (dead s.sid) s.in_hand) goes) ∙ due in
        elim (why_settled kind (dead s.sid) m settled) [
          | inl standard ↦ absurd (leftmost (sym laws.kind_is ∙ standard))
          | inr died ↦ (length given, dies laws given s.from s.origin s.walked s.sid a.from_origin a.apart leftmost a.held_is a.origin_walked within died)
        ]

    -- so the bytes up to its start are outside of every match
    pub gap_clear : IsClearTo s given (s.origin + m.start)
    gap_clear more n follows answer =
        let same = answers_together p given more s.from (moved s.origin m) n (in_hand_answers more follows) answer in
        omega (arith, ap (λ (x : Occurrence). x.start) same)

    -- nothing behind its start was reported
    unreported : s.reported ≤ s.origin + m.start
    unreported = a.clear [] (moved s.origin m) (MayFollow-nothing s.ended) (in_hand_answers [] (MayFollow-nothing s.ended))

    -- and it is told
    pub match_told : (s' : StreamProgress) (told : Occurrence) → s.refused ≡ false → s.origin + m.start ≤ s.reported → told ≡ moved s.origin m
        → s' ≡ record s { told = s.origin + m.start; reported = s.origin + m.end; from = s.origin + m.end; origin = s.origin + m.end; walked = s.origin + m.end; sid = s.start; in_hand = None }
        → After lookups s' given × TellsMatch p s s' given told
    match_told s' told unrefused reached is moves = (
      subst (λ (t : StreamProgress). After lookups t given) (sym moves) (after_given A automaton p lookups s given m a laws.lengths_are in_hand unreported unrefused),
      subst (λ (x : Occurrence). TellsMatch p s s' given x) (sym is)
          (subst (λ (t : StreamProgress). TellsMatch p s t given (moved s.origin m)) (sym moves)
          (record {
            answer = in_hand_answers;
            settled = in_hand_died;
            starts = omega (arith, reached, unreported);
            read = omega (arith, (in_hand_within lookups s given m a in_hand).1, within);
            told = refl;
            reported = refl;
            from = refl;
          })),
    )

-- what is told of a match or a gap, by the end of the last match and of the last chunk alone
pub told_from : (p : Patterns) (s t s' : StreamProgress) (given : List ℕ) (piece : StreamPiece) → t.reported ≡ s.reported → t.from ≡ s.from → TellsChunk p t s' given piece → TellsChunk p s s' given piece
told_from p s t s' given NonMatch reported from tells = record {
  some = omega (arith, tells.some, reported);
  read = tells.read;
  told = tells.told ∙ reported;
  from = tells.from ∙ from;
  clear = λ more m follows answer. tells.clear more m follows (subst (λ (x : ℕ). IsAnswer p (search_from x (given ++ more)) (Some m)) (sym from) answer);
}
told_from p s t s' given (Match m) reported from tells = record {
  answer = λ more follows. subst (λ (x : ℕ). IsAnswer p (search_from x (given ++ more)) (Some m)) from (tells.answer more follows);
  settled = λ goes leftmost. subst (λ (x : ℕ). (place : ℕ) × DiesAt p given x place) from (tells.settled goes leftmost);
  starts = tells.starts ∙ reported;
  read = tells.read;
  told = tells.told;
  reported = tells.reported;
  from = tells.from;
}

pub told_from_option : (p : Patterns) (s t s' : StreamProgress) (given : List ℕ) (answer : Option StreamPiece) → t.reported ≡ s.reported → t.from ≡ s.from → IfSome answer (TellsChunk p t s' given) → IfSome answer (TellsChunk p s s' given)
told_from_option p s t s' given None reported from tells = tt
told_from_option p s t s' given (Some piece) reported from tells = told_from p s t s' given piece reported from tells

-- a chunk has a byte, so none is told where all was reported
pub no_chunk_left : (p : Patterns) (lengths : List ℕ) → lengths ≡ map length p.words → 1 ≤ shortest lengths → (s s' : StreamProgress) (given : List ℕ) (piece : StreamPiece) → TellsChunk p s s' given piece → length given ≤ s.reported → ⊥
no_chunk_left p lengths are no_empty s s' given NonMatch tells all = omega (arith, tells.some, tells.read, all)
no_chunk_left p lengths are no_empty s s' given (Match m) tells all =
    omega (arith, occurs_some p lengths are m (tells.answer [] (MayFollow-nothing s'.ended)).0 no_empty, tells.starts, tells.read, all)
