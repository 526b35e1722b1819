-- How far the cover of a stream has come, from one read to the next.
use Rattle.aho_cover.specs.Hand.{held_runs}
use Rattle.aho_core.specs.Held.{held_after}
use Rattle.aho_core.specs.Step.{depth_of}
use Rattle.aho_core.specs.declared.search.MatchKind.TheVariants.{Standard}
use Rattle.aho_core.specs.Listing.{IsMember}
use Rattle.aho_core.specs.declared.search.Anchored.TheVariants.{No}
use Rattle.aho_laws.proofs.Listed.{member-right}
use Rattle.std.proofs.Common.{◌≡◌, ℕ, ◌-◌, ◌*◌, ◌≤◌, Bool, true, false, List, [], ◌++◌, length, map, take, refl, sym, ◌∙◌, ap, subst, arith, append_assoc, append-nil, length-append, ◌∷◌}
use Rattle.std.specs.Prelude.{Result, Ok, Err, IfErr, IsErrAnd, OnErr, OnOk, slice_range}
use Rattle.std.specs.Io.{StartsWith}
use Rattle.std.specs.Io.KnownBytes.{Appends, Keeps}
use Rattle.std.proofs.KnownBytes.{Appends-kept, Appends-nil, Appends-trans, Consumes-nil, Consumes-trans}
use Rattle.std.proofs.lemmas.List.{take-append-le, take_all}
use Rattle.aho_core.specs.declared.error.stream.StreamError.{StreamError}
use Rattle.aho_core.specs.declared.error.stream.StreamError.TheVariants.{Match as Refused, Read, Write, WriteZero, Memory, PositionLimit}
use Rattle.aho_core.specs.Cover.{IsCovered}
use Rattle.aho_core.specs.Occurrence.{Occurrence}
use Rattle.aho_core.specs.Patterns.{Patterns}
use Rattle.aho_core.specs.Replacement.{replaced_by}
use Rattle.aho_devices.specs.Counts.{counted}
use Rattle.aho_devices.specs.Refusals.{IsWriteRefusal}
use Rattle.aho_devices.specs.declared.device.Sink.{Ghosts as SinkGhosts}
use Rattle.aho_devices.specs.declared.device.Source.{Ghosts as SourceGhosts}
use Rattle.aho_automaton.proofs.Places.{length_part}
use Rattle.aho_automaton.specs.declared.automaton.Automaton.{Ghosts as Automata}
use Rattle.aho_stream.specs.After.{EndsWith, greatest_position}
use Rattle.aho_stream.specs.Refills.{is_limit}
use Rattle.aho_stream.specs.Replacing.{GaveAsMany, IsMakingRefusal, SourceGave}
use Rattle.aho_cover.specs.declared.progress.CoverProgress.{CoverProgress}
use Rattle.aho_cover.specs.Counting.{CountsThese, Output, no_output, put_on}
use Rattle.aho_cover.specs.Covers.{BeginsCoveringWith, CountsRunsWith, CountsWrittenWith, CoversStreamUpToWith, CoversStreamWith, LeavesCountedWith, LeavesCoveredWith, MayGoOn, TwoAByte, covered_up_to}
use Rattle.aho_cover.specs.Feeds.{Feeding}
use Rattle.aho_cover.specs.Pieces.{EndsAmong, IsCoverWith, PieceRule, cover_with, piece_in}
use Rattle.aho_cover.specs.Progress.{HasCovered, IsAll, IsBeginning, IsSoundCover, waiting, walk_end}
use Rattle.aho_cover.specs.Refilling.{TakesIn}
use Rattle.aho_cover.specs.Steps.{CoversOn, CoversToEnd, IsPrompt, KeepsBytes, MayRoll}
use Rattle.aho_cover.specs.Walks.{StandsIn}
use Rattle.aho_cover.specs.Words.{AreRunsWith, CountsIn, all_runs, kept_with, decided_of}
use Rattle.aho_cover.specs.Writes.{WritesOn}
use Rattle.aho_cover.proofs.Back.{may-go_on}
use Rattle.aho_cover.proofs.Chosen.{all-are, all-made, counts-further, counts-upto}
use Rattle.aho_cover.proofs.Counted.{counts_none, counts_then}
use Rattle.aho_cover.proofs.Copied.{nothing_between}
use Rattle.aho_cover.proofs.Covered.{has-begun, has-upto}

-- a list of no length
no_items : (xs : List ℕ) → length xs ≡ 0 → xs ≡ []
no_items [] none = refl
no_items (x ∷ xs) none = absurd (omega (arith, none))

-- the error of a call that is passed on
pub err_passed : {X E : Type 0} (result : Result X E) (error : E) → IsErrAnd result (λ e. e ≡ error) → result ≡ Err error
err_passed (Ok x) error is = absurd is
err_passed (Err e) error is = ap Err is

-- the cover of a text is what is computed
cover_is : (words : Bool) (p : Patterns) (haystack output : List ℕ) (rule : PieceRule) → IsCoverWith words p haystack rule output → output ≡ cover_with words p haystack rule
cover_is words p haystack output rule (runs, are, is) = is ∙ ap (λ (xs : List Occurrence). replaced_by haystack xs (piece_in rule haystack)) (all-are p haystack words runs are)

is_cover : (words : Bool) (p : Patterns) (haystack : List ℕ) (written : Output) (rule : PieceRule) → IsAll words rule p haystack written → IsCoverWith words p haystack rule written.bytes
is_cover words p haystack written rule all = (all_runs words p haystack, all-made p haystack words, all.0)

-- runs that begin those of a text
first_of : (words : Bool) (rule : PieceRule) (p : Patterns) (bytes haystack : List ℕ) (runs : List Occurrence) (written : Output) → bytes ≡ haystack → AreRunsWith words p bytes runs → IsBeginning words rule p haystack written
    → (later : List Occurrence) × (runs ≡ written.runs ++ later) × EndsAmong bytes (piece_in rule bytes) written.runs later written.bytes
first_of words rule p bytes haystack runs written same are begins = (
  begins.1.0,
  all-are p bytes words runs are ∙ ap (λ (h : List ℕ). all_runs words p h) same ∙ begins.1.1,
  subst (λ (h : List ℕ). EndsAmong h (piece_in rule h) written.runs begins.1.0 written.bytes) (sym same) begins.1.2,
)

-- what counts is known
is_chosen : (words chosen : Bool) (rule : PieceRule) (p : Patterns) (haystack : List ℕ) (written : Output) → chosen ≡ words → IsBeginning chosen rule p haystack written → IsBeginning words rule p haystack written
is_chosen words chosen rule p haystack written same begins = subst (λ (w : Bool). IsBeginning w rule p haystack written) same begins

all_chosen : (words chosen : Bool) (rule : PieceRule) (p : Patterns) (haystack : List ℕ) (written : Output) → chosen ≡ words → IsAll chosen rule p haystack written → IsAll words rule p haystack written
all_chosen words chosen rule p haystack written same all = subst (λ (w : Bool). IsAll w rule p haystack written) same all

-- the bytes of which it is known what ends with them, and how many they are
known-part : (words : Bool) (given : List ℕ) → decided_of words given ≡ slice_range given 0 (length given - waiting words false)
known-part false given =
    let count : (length given - 0) - 0 ≡ length given = omega arith in
    sym (ap (λ (n : ℕ). take n given) count ∙ take_all (length given) given (omega arith))
known-part true given = let count : (length given - 1) - 0 ≡ length given - 1 = omega arith in sym (ap (λ (n : ℕ). take n given) count)

-- the first bytes of a text that goes on
first_part : (given more : List ℕ) (n : ℕ) → n ≡ length given → slice_range (given ++ more) 0 n ≡ given
first_part given more n long =
    let count : n - 0 ≡ length given = omega (arith, long) in
    ap (λ (k : ℕ). take k (given ++ more)) count ∙ take-append-le (length given) given more (omega arith) ∙ take_all (length given) given (omega arith)

module _ {A R W : Type 0} (G : Automata A) (S : SourceGhosts R) (K : SinkGhosts W) (a : A) (words : Bool) (rule : PieceRule) (first : R) (begun : W) (zeros : List ℕ) where
  -- so much was given, written and counted
  pub record Going (holds : List ℕ → Type 0) (s : CoverProgress) (source : R) (sink : W) (counts : List ℕ) : Type 0 where
    pub given : List ℕ
    pub written : Output
    pub gives : SourceGave S first source given false
    pub writes : Appends (K.taken begun) (K.taken sink) written.bytes
    pub counted : CountsThese written.runs zeros counts
    pub count : s.read ≡ length given
    pub chosen : s.words ≡ words
    pub unended : s.ended ≡ false
    pub covers : (p : Patterns) (more : List ℕ) → G.is_of a p → Feeding holds s (CoversOn G a rule s (walk_end s)) p (given ++ more) written

  abbrev Begins : R → W → Type 0
  Begins source sink = BeginsCoveringWith S K (G.is_of a) words rule first source begun sink

  abbrev FirstRuns : R → W → List ℕ → Type 0
  FirstRuns source sink counts = CountsWrittenWith S K (G.is_of a) words rule first source begun sink zeros counts

  -- nothing was given yet
  pub going_first : (holds : List ℕ → Type 0) (s : CoverProgress) → holds [] → s.fed ≡ 0 → s.read ≡ 0 → s.words ≡ words → s.ended ≡ false → ((p : Patterns) (haystack : List ℕ) → G.is_of a p → CoversOn G a rule s 0 p haystack no_output) → Going holds s first begun zeros
  going_first holds s none unfed unread chosen unended covers = record {
    given = [];
    written = no_output;
    gives = record { bytes = Consumes-nil (S.remaining first); end = refl };
    writes = Appends-nil (K.taken begun);
    counted = counts_none zeros;
    count = unread;
    chosen = chosen;
    unended = unended;
    covers = λ p more of. (
      (let place : 0 ≡ walk_end s = omega (arith, unread) in subst (λ (n : ℕ). CoversOn G a rule s n p more no_output) place (covers p more of)),
      subst holds (sym (nothing_between more s.copied s.fed (omega (arith, unfed)))) none,
    );
  }

  -- the sink has what it had
  pub going_kept : {holds : List ℕ → Type 0} (s : CoverProgress) (source : R) (sink sink' : W) (counts : List ℕ) → Going holds s source sink counts → Keeps (K.taken sink) (K.taken sink') → Going holds s source sink' counts
  going_kept s source sink sink' counts going kept = record {
    given = going.given;
    written = going.written;
    gives = going.gives;
    writes = Appends-kept (K.taken begun) (K.taken sink) (K.taken sink') going.written.bytes going.writes kept;
    counted = going.counted;
    count = going.count;
    chosen = going.chosen;
    unended = going.unended;
    covers = going.covers;
  }

  -- what was written begins the cover
  pub going_begins : {holds : List ℕ → Type 0} (s : CoverProgress) (source : R) (sink : W) (counts : List ℕ) → Going holds s source sink counts → IsSoundCover s (walk_end s) → Begins source sink
  going_begins s source sink counts going sound = record {
    given = going.given;
    ended = false;
    gives = going.gives;
    written = going.written.bytes;
    writes = going.writes;
    beginning = λ p bytes output of may cover.
        let whole : bytes ≡ going.given ++ may.0 = may.1 in
        let starts = (is_chosen words s.words rule p (going.given ++ may.0) going.written going.chosen (has-begun p (going.given ++ may.0) rule s (walk_end s) going.written (going.covers p may.0 of).0.covered sound.behind)).0 in
        subst (λ (xs : List ℕ). StartsWith xs going.written.bytes) (sym (cover_is words p bytes output rule cover ∙ ap (λ (h : List ℕ). cover_with words p h rule) whole)) starts;
  }

  -- and its runs are the first
  pub going_counts : {holds : List ℕ → Type 0} (s : CoverProgress) (source : R) (sink : W) (counts : List ℕ) → Going holds s source sink counts → IsSoundCover s (walk_end s) → FirstRuns source sink counts
  going_counts s source sink counts going sound = record {
    given = going.given;
    ended = false;
    gives = going.gives;
    written = going.written.bytes;
    writes = going.writes;
    first = going.written.runs;
    counted = going.counted;
    beginning = λ p bytes runs of may are.
        first_of words rule p bytes (going.given ++ may.0) runs going.written may.1 are (is_chosen words s.words rule p (going.given ++ may.0) going.written going.chosen (has-begun p (going.given ++ may.0) rule s (walk_end s) going.written (going.covers p may.0 of).0.covered sound.behind));
  }

  -- with two look-ups for each byte of it
  pub going_paid : {holds : List ℕ → Type 0} (s : CoverProgress) (source : R) (sink : W) (counts : List ℕ) → Going holds s source sink counts → (lookups : ℕ) → lookups ≤ 2 * s.read → TwoAByte S first source lookups
  going_paid s source sink counts going lookups paid = record { given = going.given; ended = false; gives = going.gives; at_most = omega (arith, paid, going.count) }

  -- more of the first run was fed
  pub going_fed : {holds : List ℕ → Type 0} (holds' : List ℕ → Type 0) (s s' : CoverProgress) → s' ≡ record s { fed = s'.fed } → (source : R) (sink : W) (counts : List ℕ) → Going holds s source sink counts
      → ((written : Output) (p : Patterns) (haystack : List ℕ) → Feeding holds s (HasCovered rule s (walk_end s)) p haystack written → Feeding holds' s' (HasCovered rule s' (walk_end s)) p haystack written)
      → Going holds' s' source sink counts
  going_fed holds' s s' only source sink counts going feeds =
      let read : s'.read ≡ s.read = ap (λ (t : CoverProgress). t.read) only in
      let sid : s.sid ≡ s'.sid = sym (ap (λ (t : CoverProgress). t.sid) only) in
      record {
        given = going.given;
        written = going.written;
        gives = going.gives;
        writes = going.writes;
        counted = going.counted;
        count = read ∙ going.count;
        chosen = ap (λ (t : CoverProgress). t.words) only ∙ going.chosen;
        unended = ap (λ (t : CoverProgress). t.ended) only ∙ going.unended;
        covers = λ p more of.
            let before = going.covers p more of in
            let after = feeds going.written p (going.given ++ more) (before.0.covered, before.1) in
            let end : walk_end s ≡ walk_end s' = sym (ap walk_end only) in
            subst (λ (n : ℕ). Feeding holds' s' (CoversOn G a rule s' n) p (going.given ++ more) going.written) end
            (record { of = of; is_held = subst (λ (n : ℕ). StandsIn G a p (going.given ++ more) n (walk_end s)) sid before.0.is_held; covered = after.0 }, after.1);
      }

  -- one read more, of a progress that takes in what it gives
  module _ {holds : List ℕ → Type 0} (s s' : CoverProgress) (source source' : R) (sink : W) (old : List ℕ) (going : Going holds s source sink old) (takes : TakesIn s s' (S.remaining source) (S.remaining source')) where
    abbrev given_now : List ℕ
    given_now = going.given ++ takes.bytes

    pub gives_more : (ended : Bool) → S.empty_reads source' ≡ counted ended (S.empty_reads source) → SourceGave S first source' given_now ended
    gives_more ended counts = record {
      bytes = Consumes-trans (S.remaining first) (S.remaining source) (S.remaining source') going.given takes.bytes going.gives.bytes takes.given;
      end = counts ∙ ap (counted ended) going.gives.end;
    }

    pub count_more : s'.read ≡ length given_now
    count_more = omega (arith, takes.count, going.count, length-append going.given takes.bytes)

    -- two look-ups for each byte of it
    pub paid_more : (ended : Bool) → S.empty_reads source' ≡ counted ended (S.empty_reads source) → (lookups : ℕ) → lookups ≤ 2 * s'.read → TwoAByte S first source' lookups
    paid_more ended counts lookups paid = record { given = given_now; ended = ended; gives = gives_more ended counts; at_most = omega (arith, paid, count_more) }

    -- the same counts
    chosen_more : s'.words ≡ words
    chosen_more = ap (λ (t : CoverProgress). t.words) takes.others ∙ going.chosen

    -- the same was covered
    pub covers_more : (p : Patterns) (more : List ℕ) → G.is_of a p → Feeding holds s' (CoversOn G a rule s' (walk_end s)) p (given_now ++ more) going.written
    covers_more p more of =
        let both = subst (λ (h : List ℕ). Feeding holds s (CoversOn G a rule s (walk_end s)) p h going.written) (sym (append_assoc going.given takes.bytes more)) (going.covers p (takes.bytes ++ more) of) in
        let before = both.0 in
        let has = before.covered in
        let h = given_now ++ more in
        let ends = subst (λ (xs : List ℕ). EndsWith xs s.buffer.bytes) (ap (λ (xs : List ℕ). slice_range xs 0 s.read) (append_assoc going.given takes.bytes more) ∙ first_part going.given (takes.bytes ++ more) s.read going.count) has.given.last in
        let within : s'.read ≤ length h = omega (arith, count_more, length-append given_now more) in
        let last : EndsWith (slice_range h 0 s'.read) s'.buffer.bytes = subst (λ (xs : List ℕ). EndsWith xs s'.buffer.bytes) (sym (first_part given_now more s'.read count_more)) (takes.last going.given ends) in
        let next : CoverProgress = record s { buffer = s'.buffer; read = s'.read } in
        subst (λ (t : CoverProgress). Feeding holds t (CoversOn G a rule t (walk_end s)) p h going.written) (sym takes.others) (
          record {
            of = of;
            is_held = before.is_held;
            covered = record {
              given = record { within = within; last = last; whole = λ e. (let clash : true ≡ false = sym e ∙ going.unended in cc) };
              walked_within = omega (arith, has.walked_within, takes.count);
              far = omega (arith, has.far, takes.least);
              since_clear = has.since_clear;
              runs = has.runs;
              settled = has.settled;
              before = has.before;
              clear = has.clear;
              fed_clear = has.fed_clear;
              written_is = has.written_is;
            };
          },
          both.1,
        )

    -- a call that reads fails: what was written before begins the cover
    pub begins_more : (sink' : W) → Appends (K.taken begun) (K.taken sink') going.written.bytes → IsSoundCover s (walk_end s) → S.empty_reads source' ≡ counted false (S.empty_reads source) → Begins source' sink'
    begins_more sink' writes sound counts = record {
      given = given_now;
      ended = false;
      gives = gives_more false counts;
      written = going.written.bytes;
      writes = writes;
      beginning = λ p bytes output of may cover.
          let whole : bytes ≡ going.given ++ (takes.bytes ++ may.0) = may.1 ∙ append_assoc going.given takes.bytes may.0 in
          let h = going.given ++ (takes.bytes ++ may.0) in
          let starts = (is_chosen words s.words rule p h going.written going.chosen (has-begun p h rule s (walk_end s) going.written (going.covers p (takes.bytes ++ may.0) of).0.covered sound.behind)).0 in
          subst (λ (xs : List ℕ). StartsWith xs going.written.bytes) (sym (cover_is words p bytes output rule cover ∙ ap (λ (h : List ℕ). cover_with words p h rule) whole)) starts;
    }

    pub counts_more : (sink' : W) → Appends (K.taken begun) (K.taken sink') going.written.bytes → IsSoundCover s (walk_end s) → S.empty_reads source' ≡ counted false (S.empty_reads source) → FirstRuns source' sink' old
    counts_more sink' writes sound counts = record {
      given = given_now;
      ended = false;
      gives = gives_more false counts;
      written = going.written.bytes;
      writes = writes;
      first = going.written.runs;
      counted = going.counted;
      beginning = λ p bytes runs of may are.
          let whole : bytes ≡ going.given ++ (takes.bytes ++ may.0) = may.1 ∙ append_assoc going.given takes.bytes may.0 in
          let h = going.given ++ (takes.bytes ++ may.0) in
          first_of words rule p bytes h runs going.written whole are (is_chosen words s.words rule p h going.written going.chosen (has-begun p h rule s (walk_end s) going.written (going.covers p (takes.bytes ++ may.0) of).0.covered sound.behind));
    }

    module _ {holds' : List ℕ → Type 0} (sink' : W) (new : List ℕ) (s'' : CoverProgress) (writes : WritesOn K sink sink' old new (Feeding holds s' (CoversOn G a rule s' (walk_end s))) (Feeding holds' s'' (CoversOn G a rule s'' (walk_end s'')))) (keeps : KeepsBytes s' s'') (counts : S.empty_reads source' ≡ counted false (S.empty_reads source)) where
      -- it was walked over
      pub going_on : Going holds' s'' source' sink' new
      going_on = record {
        given = given_now;
        written = put_on going.written writes.bytes writes.runs;
        gives = gives_more false counts;
        writes = Appends-trans (K.taken begun) (K.taken sink) (K.taken sink') going.written.bytes writes.bytes going.writes writes.appends;
        counted = counts_then going.written.runs writes.runs zeros old new going.counted writes.counted;
        count = keeps.read ∙ count_more;
        chosen = keeps.words ∙ chosen_more;
        unended = keeps.ended ∙ ap (λ (t : CoverProgress). t.ended) takes.others ∙ going.unended;
        covers = λ p more of. writes.follows p (given_now ++ more) going.written (covers_more p more of);
      }

    -- a write fails on the way
    pub begins_on : (sink' : W) (new : List ℕ) → WritesOn K sink sink' old new (Feeding holds s' (CoversOn G a rule s' (walk_end s))) (IsBeginning s'.words rule) → S.empty_reads source' ≡ counted false (S.empty_reads source) → Begins source' sink'
    begins_on sink' new writes counts = record {
      given = given_now;
      ended = false;
      gives = gives_more false counts;
      written = going.written.bytes ++ writes.bytes;
      writes = Appends-trans (K.taken begun) (K.taken sink) (K.taken sink') going.written.bytes writes.bytes going.writes writes.appends;
      beginning = λ p bytes output of may cover.
          let out = put_on going.written writes.bytes writes.runs in
          let starts = (is_chosen words s'.words rule p (given_now ++ may.0) out chosen_more (writes.follows p (given_now ++ may.0) going.written (covers_more p may.0 of))).0 in
          subst (λ (xs : List ℕ). StartsWith xs (going.written.bytes ++ writes.bytes)) (sym (cover_is words p bytes output rule cover ∙ ap (λ (h : List ℕ). cover_with words p h rule) may.1)) starts;
    }

    pub counts_on : (sink' : W) (new : List ℕ) → WritesOn K sink sink' old new (Feeding holds s' (CoversOn G a rule s' (walk_end s))) (IsBeginning s'.words rule) → S.empty_reads source' ≡ counted false (S.empty_reads source) → FirstRuns source' sink' new
    counts_on sink' new writes counts = record {
      given = given_now;
      ended = false;
      gives = gives_more false counts;
      written = going.written.bytes ++ writes.bytes;
      writes = Appends-trans (K.taken begun) (K.taken sink) (K.taken sink') going.written.bytes writes.bytes going.writes writes.appends;
      first = going.written.runs ++ writes.runs;
      counted = counts_then going.written.runs writes.runs zeros old new going.counted writes.counted;
      beginning = λ p bytes runs of may are.
          let out = put_on going.written writes.bytes writes.runs in
          first_of words rule p bytes (given_now ++ may.0) runs out may.1 are (is_chosen words s'.words rule p (given_now ++ may.0) out chosen_more (writes.follows p (given_now ++ may.0) going.written (covers_more p may.0 of)));
    }

    -- the end was seen
    module _ (same : s'.read ≡ s.read) (counts : S.empty_reads source' ≡ counted true (S.empty_reads source)) where
      pub ends_here : (p : Patterns) → G.is_of a p → CoversToEnd G a rule holds s' (walk_end s) p given_now going.written
      ends_here p of =
          (subst (λ (h : List ℕ). Feeding holds s' (CoversOn G a rule s' (walk_end s)) p h going.written) (append-nil given_now) (covers_more p [] of), sym count_more)

      pub covers_all : (sink' : W) (new : List ℕ) → WritesOn K sink sink' old new (CoversToEnd G a rule holds s' (walk_end s)) (IsAll s'.words rule) → CoversStreamWith S K (G.is_of a) words rule first source' begun sink'
      covers_all sink' new writes = record {
        given = given_now;
        gives = gives_more true counts;
        output = going.written.bytes ++ writes.bytes;
        writes = Appends-trans (K.taken begun) (K.taken sink) (K.taken sink') going.written.bytes writes.bytes going.writes writes.appends;
        covers = λ p of.
            let out = put_on going.written writes.bytes writes.runs in
            is_cover words p given_now out rule (all_chosen words s'.words rule p given_now out chosen_more (writes.follows p given_now going.written (ends_here p of)));
      }

      pub counts_all : (sink' : W) (new : List ℕ) → WritesOn K sink sink' old new (CoversToEnd G a rule holds s' (walk_end s)) (IsAll s'.words rule) → CountsRunsWith S (G.is_of a) words first source' zeros new
      counts_all sink' new writes = record {
        given = given_now;
        gives = gives_more true counts;
        counted = λ p runs of are.
            let out = put_on going.written writes.bytes writes.runs in
            let all = (all_chosen words s'.words rule p given_now out chosen_more (writes.follows p given_now going.written (ends_here p of))).1 in
            subst (λ (xs : List Occurrence). CountsThese xs zeros new) (all ∙ sym (all-are p given_now words runs are)) (counts_then going.written.runs writes.runs zeros old new going.counted writes.counted);
      }

      pub begins_end : (sink' : W) (new : List ℕ) → WritesOn K sink sink' old new (CoversToEnd G a rule holds s' (walk_end s)) (IsBeginning s'.words rule) → Begins source' sink'
      begins_end sink' new writes = record {
        given = given_now;
        ended = true;
        gives = gives_more true counts;
        written = going.written.bytes ++ writes.bytes;
        writes = Appends-trans (K.taken begun) (K.taken sink) (K.taken sink') going.written.bytes writes.bytes going.writes writes.appends;
        beginning = λ p bytes output of may cover.
            let whole : bytes ≡ given_now = may.1 ∙ ap (λ (xs : List ℕ). given_now ++ xs) may.2 ∙ append-nil given_now in
            let out = put_on going.written writes.bytes writes.runs in
            let starts = (is_chosen words s'.words rule p given_now out chosen_more (writes.follows p given_now going.written (ends_here p of))).0 in
            subst (λ (xs : List ℕ). StartsWith xs (going.written.bytes ++ writes.bytes)) (sym (cover_is words p bytes output rule cover ∙ ap (λ (h : List ℕ). cover_with words p h rule) whole)) starts;
      }

      pub counts_end : (sink' : W) (new : List ℕ) → WritesOn K sink sink' old new (CoversToEnd G a rule holds s' (walk_end s)) (IsBeginning s'.words rule) → FirstRuns source' sink' new
      counts_end sink' new writes = record {
        given = given_now;
        ended = true;
        gives = gives_more true counts;
        written = going.written.bytes ++ writes.bytes;
        writes = Appends-trans (K.taken begun) (K.taken sink) (K.taken sink') going.written.bytes writes.bytes going.writes writes.appends;
        first = going.written.runs ++ writes.runs;
        counted = counts_then going.written.runs writes.runs zeros old new going.counted writes.counted;
        beginning = λ p bytes runs of may are.
            let whole : bytes ≡ given_now = may.1 ∙ ap (λ (xs : List ℕ). given_now ++ xs) may.2 ∙ append-nil given_now in
            let out = put_on going.written writes.bytes writes.runs in
            first_of words rule p bytes given_now runs out whole are (is_chosen words s'.words rule p given_now out chosen_more (writes.follows p given_now going.written (ends_here p of)));
      }

    -- nothing was given by a read that fails
    given_same : s'.read ≡ s.read → given_now ≡ going.given
    given_same same = ap (λ (xs : List ℕ). going.given ++ xs) (no_items takes.bytes (omega (arith, takes.count, same))) ∙ append-nil going.given

    -- so much of it was covered
    covers_given : s'.read ≡ s.read → (p : Patterns) → G.is_of a p → CoversOn G a rule s (walk_end s) p given_now going.written
    covers_given same p of = subst (λ (h : List ℕ). CoversOn G a rule s (walk_end s) p h going.written) (append-nil going.given ∙ sym (given_same same)) (going.covers p [] of).0

    -- a byte that nothing holds which counts lies in no run in hand
    not_in_hand : s'.read ≡ s.read → (p : Patterns) (at : ℕ) → G.is_of a p → (IsCovered (CountsIn words p given_now) at → ⊥) → IsCovered (IsMember (held_runs s.hand)) at → ⊥
    not_in_hand same p at of bare c =
        let has = (covers_given same p of).covered in
        let within : walk_end s ≤ length given_now = omega (arith, count_more, same) in
        let runs = counts-upto p given_now (walk_end s) s.words within in
        let there = subst (λ (xs : List Occurrence). IsMember xs c.found) (sym has.runs) (member-right going.written.runs (held_runs s.hand) c.found c.member) in
        let d = runs.only at (record { found = c.found; member = there; after_start = c.after_start; before_end = c.before_end }) in
        let counts = counts-further p given_now s.words (walk_end s) d.found within d.member in
        bare (record { found = d.found; member = subst (λ (w : Bool). CountsIn w p given_now d.found) going.chosen counts; after_start = d.after_start; before_end = d.before_end })

    -- what was written then is the cover up to a place, and few bytes are left out that lie in no match
    pub upto_more : (sink' : W) → Appends (K.taken begun) (K.taken sink') going.written.bytes → IsSoundCover s (walk_end s) → MayRoll s → IsPrompt G a s → ((p : Patterns) → G.is_of a p → p.kind ≡ Standard)
        → ((p : Patterns) (word : List ℕ) (sid : ℕ) → G.is_of a p → G.held a p No word sid → G.reach a sid ≡ depth_of (held_after p No word)) → s'.read ≡ s.read → S.empty_reads source' ≡ counted false (S.empty_reads source)
        → CoversStreamUpToWith S K (G.is_of a) words rule first source' begun sink'
    upto_more sink' writes sound near prompt standard reaches same counts = record {
      given = given_now;
      ended = false;
      gives = gives_more false counts;
      place = s.copied;
      within = omega (arith, sound.copied_walked, count_more, same);
      near = λ p at of low bare.
          let has = (covers_given same p of).covered in
          omega (arith, near at low (not_in_hand same p at of bare), has.far, ap (λ (w : Bool). kept_with w (map length p.words)) going.chosen, count_more, same);
      prompt = λ p at of low inside bare.
          let covers = covers_given same p of in
          let long : s.read ≡ length given_now = sym same ∙ count_more in
          let end : walk_end s ≡ length given_now - waiting words false = ap (λ (n : ℕ). n - waiting s.words s.ended) long ∙ ap (λ (w : Bool). length given_now - waiting w s.ended) going.chosen ∙ ap (λ (e : Bool). length given_now - waiting words e) going.unended in
          let known : slice_range given_now 0 (walk_end s) ≡ decided_of words given_now = ap (slice_range given_now 0) end ∙ sym (known-part words given_now) in
          let many : length (decided_of words given_now) ≡ walk_end s = omega (arith, ap length known, length_part given_now 0 (walk_end s) (omega (arith, long))) in
          subst (λ (text : List ℕ). MayGoOn p text at) known
          (may-go_on G a p given_now (standard p of) (λ word sid held. reaches p word sid of held) at s.sid (walk_end s) covers.is_held (omega (arith, inside, many)) (omega (arith, prompt at low (not_in_hand same p at of bare))));
      writes = λ p bytes runs of may are.
          let whole : bytes ≡ going.given ++ (takes.bytes ++ may.0) = may.1 ∙ append_assoc going.given takes.bytes may.0 in
          let h = going.given ++ (takes.bytes ++ may.0) in
          let upto = subst (λ (w : Bool). covered_up_to h s.copied 0 (all_runs w p h) (piece_in rule h) ≡ going.written.bytes) going.chosen (has-upto p h rule s (walk_end s) going.written (going.covers p (takes.bytes ++ may.0) of).0.covered sound.behind) in
          subst (Appends (K.taken begun) (K.taken sink'))
          (sym (ap (λ (xs : List Occurrence). covered_up_to bytes s.copied 0 xs (piece_in rule bytes)) (all-are p bytes words runs are) ∙ ap (λ (h : List ℕ). covered_up_to h s.copied 0 (all_runs words p h) (piece_in rule h)) whole ∙ upto))
          writes;
    }

    -- the limit was met
    pub limit_more : s'.read ≡ s.read → s.read ≡ greatest_position → S.empty_reads source' ≡ counted false (S.empty_reads source) → GaveAsMany S first source' greatest_position
    limit_more same reached counts = (given_now, gives_more false counts, sym count_more ∙ same ∙ reached)

-- what is left, by how it ended
module _ {R W : Type 0} (S : SourceGhosts R) (K : SinkGhosts W) (AreSearched : Patterns → Type 0) (words : Bool) (rule : PieceRule) (source source' : R) (sink sink' : W) where
  abbrev Leaves : Result (Unit {0}) StreamError → Type 0
  Leaves = LeavesCoveredWith S K AreSearched words rule source source' sink sink'

  -- where a write was refused
  pub leaves_written : (error : StreamError) → IsWriteRefusal error → BeginsCoveringWith S K AreSearched words rule source source' sink sink' → Leaves (Err error)
  leaves_written (Refused cause) only some = absurd only
  leaves_written (Read fault) only some = absurd only
  leaves_written (Write fault) only some = record { covered = tt; begun = some; near = λ fills. absurd fills; limit = λ met. cc }
  leaves_written WriteZero only some = record { covered = tt; begun = some; near = λ fills. absurd fills; limit = λ met. cc }
  leaves_written Memory only some = absurd only
  leaves_written PositionLimit only some = absurd only

  -- where a read was refused
  pub leaves_read : (error : StreamError) → BeginsCoveringWith S K AreSearched words rule source source' sink sink' → CoversStreamUpToWith S K AreSearched words rule source source' sink sink' → (is_limit {A = Bool} (Err error) ≡ true → GaveAsMany S source source' greatest_position) → Leaves (Err error)
  leaves_read (Refused cause) some near limit = record { covered = tt; begun = some; near = λ fills. near; limit = limit }
  leaves_read (Read fault) some near limit = record { covered = tt; begun = some; near = λ fills. near; limit = limit }
  leaves_read (Write fault) some near limit = record { covered = tt; begun = some; near = λ fills. near; limit = limit }
  leaves_read WriteZero some near limit = record { covered = tt; begun = some; near = λ fills. near; limit = limit }
  leaves_read Memory some near limit = record { covered = tt; begun = some; near = λ fills. near; limit = limit }
  leaves_read PositionLimit some near limit = record { covered = tt; begun = some; near = λ fills. near; limit = limit }

  -- at the end
  pub leaves_ended : (result : Result (Unit {0}) StreamError) → IfErr result IsWriteRefusal → OnOk result (CoversStreamWith S K AreSearched words rule source source' sink sink') → OnErr result (BeginsCoveringWith S K AreSearched words rule source source' sink sink') → Leaves result
  leaves_ended (Ok done) only whole some = record { covered = whole; begun = tt; near = tt; limit = λ met. cc }
  leaves_ended (Err error) only whole some = leaves_written error only some

-- nothing is left where it was refused before it was begun
module _ {R W : Type 0} (S : SourceGhosts R) (K : SinkGhosts W) (source : R) (sink : W) where
  pub leaves_nothing : (AreSearched : Patterns → Type 0) (words : Bool) (rule : PieceRule) (error : StreamError) → IsMakingRefusal error → LeavesCoveredWith S K AreSearched words rule source source sink sink (Err error)
  leaves_nothing AreSearched words rule error only = by_error error only
    where
      nothing : BeginsCoveringWith S K AreSearched words rule source source sink sink
      nothing = record {
        given = [];
        ended = false;
        gives = record { bytes = Consumes-nil (S.remaining source); end = refl };
        written = [];
        writes = Appends-nil (K.taken sink);
        beginning = λ p bytes output of may cover. refl;
      }

      by_error : (error : StreamError) → IsMakingRefusal error → LeavesCoveredWith S K AreSearched words rule source source sink sink (Err error)
      by_error (Refused cause) only = record { covered = tt; begun = nothing; near = λ fills. absurd fills; limit = λ met. cc }
      by_error (Read fault) only = absurd only
      by_error (Write fault) only = absurd only
      by_error WriteZero only = absurd only
      by_error Memory only = record { covered = tt; begun = nothing; near = λ fills. absurd fills; limit = λ met. cc }
      by_error PositionLimit only = absurd only

-- what was counted, by how it ended
pub leaves_counts : {R W : Type 0} (S : SourceGhosts R) (K : SinkGhosts W) (AreSearched : Patterns → Type 0) (words : Bool) (rule : PieceRule) (source source' : R) (sink sink' : W) (counts counts' : List ℕ) (result : Result (Unit {0}) StreamError)
    → OnOk result (CountsRunsWith S AreSearched words source source' counts counts') → OnErr result (CountsWrittenWith S K AreSearched words rule source source' sink sink' counts counts')
    → LeavesCountedWith S K AreSearched words rule source source' sink sink' counts counts' result
leaves_counts S K AreSearched words rule source source' sink sink' counts counts' result all some = record { counted = all; begun = some }
