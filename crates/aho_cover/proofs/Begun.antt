-- A cover of a stream before the first byte.
use Rattle.std.proofs.Common.{◌≡◌, ℕ, ◌+◌, ◌/◌, ◌≤◌, max, Bool, true, false, List, [], length, map, refl, sym, ◌∙◌, ap, subst, arith}
use Rattle.aho_core.specs.Laws.{longest}
use Rattle.aho_core.specs.Listing.{IsMember}
use Rattle.aho_core.specs.Occurrence.{Occurrence}
use Rattle.aho_core.specs.Patterns.{Patterns}
use Rattle.aho_core.specs.declared.search.Anchored.TheVariants.{No}
use Rattle.aho_laws.specs.CoverLaws.{AreInOrder}
use Rattle.aho_devices.specs.Buffer.{Buffered}
use Rattle.aho_automaton.specs.declared.automaton.Automaton.{Ghosts as Automata}
use Rattle.aho_automaton.proofs.Places.{no_part}
use Rattle.aho_cover.specs.declared.hand.Hand.{Hand}
use Rattle.aho_cover.specs.declared.progress.CoverProgress.{CoverProgress}
use Rattle.aho_cover.specs.Counting.{no_output}
use Rattle.aho_cover.specs.Hand.{HasItsFirst, held_runs, room_in}
use Rattle.aho_cover.specs.Covers.{IsUnbegunWith}
use Rattle.aho_cover.specs.Pieces.{PieceRule}
use Rattle.aho_cover.specs.Walks.{StandsIn}
use Rattle.aho_cover.specs.Words.{kept_with}
use Rattle.aho_cover.specs.Progress.{HasCovered, IsSoundCover, KeepsRoom, unbegun_cover}

-- how many bytes a buffer keeps
pub kept-by : (words : Bool) (least n : ℕ) (lengths : List ℕ) → n ≡ longest lengths → (words ≡ false → least ≡ max 1 n) → (words ≡ true → least ≡ max 1 (n + 1)) → (least ≡ kept_with words lengths) × (1 ≤ least)
kept-by false least n lengths is all one = (all refl ∙ ap (max 1) is, omega (arith, all refl))
kept-by true least n lengths is all one = (one refl ∙ ap (λ (k : ℕ). max 1 (k + 1)) is, omega (arith, one refl))

none-there : (runs : List Occurrence) (P : Occurrence → Type 0) → runs ≡ [] → (x : Occurrence) → IsMember runs x → P x
none-there runs P none x there = absurd (subst (λ (xs : List Occurrence). IsMember xs x) none there)

none-ordered : AreInOrder [] 0
none-ordered = record { in_order = tt; full = λ x there. absurd there; within = λ x there. absurd there }

pub begun-sound : (buffer : Buffered) (hand : Hand) (sid : ℕ) (words : Bool) → 1 ≤ buffer.least → buffer.bytes ≡ [] → held_runs hand ≡ [] → HasItsFirst hand → room_in hand ≡ buffer.least / 2 + 1 → IsSoundCover (unbegun_cover buffer hand sid words) 0
begun-sound buffer hand sid words some empty none whole room = record {
  small = omega arith;
  walked = omega arith;
  some = some;
  held = omega (arith, ap length empty);
  unwalked = omega arith;
  last_held = omega arith;
  since_walked = omega arith;
  copied_walked = omega arith;
  in_order = subst (λ (runs : List Occurrence). AreInOrder runs 0) (sym none) none-ordered;
  fed_walked = omega arith;
  fed_first = λ some. absurd (omega (arith, some));
  fed_within = none-there (held_runs hand) (λ x. 0 ≤ x.end) none;
  fed_held = none-there (held_runs hand) (λ x. 0 ≤ max 0 x.start + length buffer.bytes) none;
  behind = none-there (held_runs hand) (λ x. 0 ≤ x.start) none;
  kept = λ place low bare. omega arith;
  whole = whole;
  room = room;
}

pub begun-held : {A : Type 0} (G : Automata A) (a : A) (p : Patterns) (haystack : List ℕ) (sid : ℕ) → G.held a p No [] sid → StandsIn G a p haystack sid 0
begun-held G a p haystack sid held = record {
  origin = 0;
  after_start = omega arith;
  before_place = omega arith;
  in_span = omega arith;
  from_start = λ e. refl;
  apart = λ m occurs before. absurd (omega (arith, before));
  is_state = tt;
  is_held = subst (λ (w : List ℕ). G.held a p No w sid) (sym (no_part haystack 0)) held;
}

pub begun-covered : (p : Patterns) (rule : PieceRule) (haystack : List ℕ) (buffer : Buffered) (hand : Hand) (sid : ℕ) (words : Bool) → buffer.bytes ≡ [] → held_runs hand ≡ [] → buffer.least ≡ kept_with words (map length p.words)
    → HasCovered rule (unbegun_cover buffer hand sid words) 0 p haystack no_output
begun-covered p rule haystack buffer hand sid words empty none least = record {
  given = record { within = omega arith; last = ([], no_part haystack 0 ∙ sym empty); whole = λ e. cc };
  walked_within = omega arith;
  far = least;
  since_clear = λ m occurs later. omega arith;
  runs = sym none;
  settled = λ x there. absurd there;
  before = λ x there. absurd there;
  clear = λ m occurs later. omega arith;
  fed_clear = λ m occurs later. omega arith;
  written_is = sym (no_part haystack 0);
}

-- and before the first byte of the next stream, with the memory of the one before
pub unbegun-again : {A : Type 0} (words : Bool) (G : Automata A) (a : A) (s s' next : CoverProgress) → IsUnbegunWith words G a s → KeepsRoom s s' → next.buffer ≡ record s'.buffer { bytes = [] } → held_runs next.hand ≡ [] → HasItsFirst next.hand → room_in next.hand ≡ room_in s'.hand
    → next ≡ unbegun_cover next.buffer next.hand s.sid s.words → IsUnbegunWith words G a next
unbegun-again words G a s s' next unbegun keeps buffer none whole room made =
    let empty : next.buffer.bytes ≡ [] = ap (λ (b : Buffered). b.bytes) buffer in
    let least : next.buffer.least ≡ s.buffer.least = ap (λ (b : Buffered). b.least) buffer ∙ keeps.least in
    subst (IsUnbegunWith words G a) (sym made)
    (record {
      chosen = unbegun.chosen;
      unended = refl;
      standard = unbegun.standard;
      no_empty = unbegun.no_empty;
      is_state = unbegun.is_state;
      shallow = unbegun.shallow;
      unread = refl;
      unfed = refl;
      sound = begun-sound next.buffer next.hand s.sid s.words (omega (arith, least, unbegun.sound.some)) empty none whole
          (room ∙ keeps.room ∙ unbegun.sound.room ∙ ap (λ (n : ℕ). n / 2 + 1) (sym least));
      covers = λ p rule haystack of.
          let before = unbegun.covers p rule haystack of in
          record {
            of = of;
            is_held = before.is_held;
            covered = begun-covered p rule haystack next.buffer next.hand s.sid s.words empty none (least ∙ before.covered.far);
          };
    })
