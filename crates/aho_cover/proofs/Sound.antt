-- The numbers of a cover, from one run that is written to the next.
use Rattle.std.proofs.Common.{◌≡◌, ◌⊎◌, inl, inr, ℕ, ◌+◌, ◌-◌, ◌/◌, ◌^◌, ◌<◌, ◌≤◌, max, min, Bool, true, false, List, [], ◌∷◌, length, refl, sym, ◌∙◌, ap, subst, arith}
use Rattle.std.specs.Prelude.{Some, nat_lt}
use Rattle.std.proofs.lemmas.Bool.{cases_lt, cond-false, cond-true, le-ltb, lt-ltb}
use Rattle.aho_core.specs.Listing.{IsMember}
use Rattle.aho_core.specs.Occurrence.{Occurrence}
use Rattle.aho_laws.specs.CoverLaws.{AreInOrder, extended, joined_runs}
use Rattle.aho_devices.specs.Buffer.{Buffered}
use Rattle.aho_laws.proofs.CoverRuns.{in_order-rest, joined-has, joined-in_order, member-of_joined}
use Rattle.aho_laws.proofs.SettledRuns.{few-joined}
use Rattle.aho_cover.specs.declared.hand.Hand.{Hand}
use Rattle.aho_cover.specs.declared.progress.CoverProgress.{CoverProgress}
use Rattle.aho_cover.specs.Feeds.{HasFedFirst}
use Rattle.aho_cover.specs.Hand.{FirstEndsBehind, HasItsFirst, first_start, held_runs, room_in}
use Rattle.aho_cover.specs.Progress.{BareFrom, IsSoundCover, least_start, open_place, outside_end, waiting, walk_end}
use Rattle.aho_cover.proofs.Covered.{joined-start}

-- no more waits than one byte
few-waiting : (words ended : Bool) → waiting words ended ≤ 1
few-waiting false ended = omega arith
few-waiting true false = omega arith
few-waiting true true = omega arith

pub last-waits : (s : CoverProgress) → s.read ≤ walk_end s + 1
last-waits s = omega (arith, few-waiting s.words s.ended)

module _ (s : CoverProgress) (at : ℕ) (sound : IsSoundCover s at) where
  module _ (x : Occurrence) (rest : List Occurrence) (first : held_runs s.hand ≡ x ∷ rest) where
    ordered-first : AreInOrder (x ∷ rest) at
    ordered-first = subst (λ (runs : List Occurrence). AreInOrder runs at) first sound.in_order

    member-first : (y : Occurrence) → IsMember (x ∷ rest) y → IsMember (held_runs s.hand) y
    member-first y there = subst (λ (runs : List Occurrence). IsMember runs y) (sym first) there

    -- where the first run lies
    pub first-lies : (s.copied ≤ x.start) × (x.start < x.end) × (x.end ≤ at)
    first-lies = (sound.behind x (member-first x (inl refl)), ordered-first.full x (inl refl), ordered-first.within x (inl refl))

    -- and the others lie behind it
    pub rest-lie : (y : Occurrence) → IsMember rest y → x.end < y.start
    rest-lie y there = ordered-first.in_order.0 y there

    -- no more was fed than it has
    pub first-fed : s.fed ≤ x.end
    first-fed = sound.fed_within x (member-first x (inl refl))

    -- once it is written
    pub sound-settled : (hand : Hand) (copied : ℕ) → held_runs hand ≡ rest → copied ≡ x.end → HasItsFirst hand → room_in hand ≡ room_in s.hand → IsSoundCover (record s { copied = copied; hand = hand }) at
    sound-settled hand copied left ends whole room = record {
      small = sound.small;
      walked = sound.walked;
      some = sound.some;
      held = sound.held;
      unwalked = sound.unwalked;
      last_held = sound.last_held;
      since_walked = sound.since_walked;
      copied_walked = omega (arith, first-lies);
      in_order = subst (λ (runs : List Occurrence). AreInOrder runs at) (sym left) (in_order-rest x rest at ordered-first);
      behind = λ y there. omega (arith, rest-lie y (subst (λ (runs : List Occurrence). IsMember runs y) left there));
      kept = λ place low bare. sound.kept place (omega (arith, first-lies)) (λ c.
          let there : IsMember (x ∷ rest) c.found = subst (λ (runs : List Occurrence). IsMember runs c.found) first c.member in
          elim there [
            | inl e ↦ omega (arith, c.before_end, ap (λ (o : Occurrence). o.end) e)
            | inr later ↦ bare (record { found = c.found; member = subst (λ (runs : List Occurrence). IsMember runs c.found) (sym left) later; after_start = c.after_start; before_end = c.before_end })
          ]);
      fed_walked = sound.fed_walked;
      fed_first = λ some. absurd (omega (arith, some, ends, sound.fed_within x (member-first x (inl refl))));
      fed_within = λ y there. sound.fed_within y (member-first y (inr (subst (λ (runs : List Occurrence). IsMember runs y) left there)));
      fed_held = λ y there. sound.fed_held y (member-first y (inr (subst (λ (runs : List Occurrence). IsMember runs y) left there)));
      whole = whole;
      room = room ∙ sound.room;
    }

  -- no run begins before the end of what is written outside
  end-first : (runs : List Occurrence) (upto place : ℕ) → AreInOrder runs upto → (y : Occurrence) → IsMember runs y → outside_end place runs ≤ y.start
  end-first [] upto place ordered y there = absurd there
  end-first (x ∷ runs) upto place ordered y there =
      elim there [
        | inl e ↦ omega (arith, ap (λ (o : Occurrence). o.start) e)
        | inr later ↦ omega (arith, ordered.in_order.0 y later, ordered.full x (inl refl))
      ]

  -- the bytes that are written outside are held
  pub outside-held : (place : ℕ) → s.copied < outside_end place (held_runs s.hand) → s.read ≤ s.copied + length s.buffer.bytes
  outside-held place some =
      omega (
        arith,
        sound.held,
        sound.kept s.copied (omega arith) (λ c. omega (arith, c.after_start, end-first (held_runs s.hand) at place sound.in_order c.found c.member)),
      )

  end-within : (runs : List Occurrence) (place : ℕ) → outside_end place runs ≤ place
  end-within [] place = omega arith
  end-within (x ∷ runs) place = omega arith

  pub outside-within : (place : ℕ) → outside_end place (held_runs s.hand) ≤ place
  outside-within place = end-within (held_runs s.hand) place

  -- once they are written
  pub sound-outside : (place copied : ℕ) → place ≤ at → copied ≡ max s.copied (outside_end place (held_runs s.hand)) → IsSoundCover (record s { copied = copied }) at
  sound-outside place copied within most = record {
    small = sound.small;
    walked = sound.walked;
    some = sound.some;
    held = sound.held;
    unwalked = sound.unwalked;
    last_held = sound.last_held;
    since_walked = sound.since_walked;
    copied_walked = omega (arith, sound.copied_walked, outside-within place);
    in_order = sound.in_order;
    behind = λ y there. omega (arith, sound.behind y there, end-first (held_runs s.hand) at place sound.in_order y there);
    kept = λ place low bare. sound.kept place (omega arith) bare;
    fed_walked = sound.fed_walked;
    fed_first = λ some.
        let before = sound.fed_first (omega (arith, some, most)) in
        let end : outside_end place (held_runs s.hand) ≡ min place s.copied = ap (least_start place) before in
        let same : s.copied ≡ copied = omega (arith, most, end) in
        before ∙ ap Some same;
    fed_within = sound.fed_within;
    fed_held = sound.fed_held;
    whole = sound.whole;
    room = sound.room;
  }

  -- then each byte that is not written and lies in no run in hand stands at the place or behind it
  pub near-outside : (place : ℕ) → FirstEndsBehind place (held_runs s.hand) → BareFrom (max s.copied (outside_end place (held_runs s.hand))) (held_runs s.hand) place
  near-outside place last = by_first (held_runs s.hand) last
    where
      by_first : (runs : List Occurrence) → FirstEndsBehind place runs → BareFrom (max s.copied (outside_end place runs)) runs place
      by_first [] last other low bare = omega arith
      by_first (x ∷ runs) last other low bare =
          elim (cases_lt x.start place) [
            | inl before ↦ elim (cases_lt other x.end) [
              | inl inside ↦ absurd (bare (record { found = x; member = inl refl; after_start = omega arith; before_end = inside }))
              | inr past ↦ omega (arith, last x runs refl)
            ]
            | inr behind ↦ omega arith
          ]

  -- where the first ends behind a place, all do
  pub all-behind : (place : ℕ) → FirstEndsBehind place (held_runs s.hand) → (y : Occurrence) → IsMember (held_runs s.hand) y → place ≤ y.end
  all-behind place last y there = by_first (held_runs s.hand) last sound.in_order there
    where
      by_first : (runs : List Occurrence) → FirstEndsBehind place runs → AreInOrder runs at → IsMember runs y → place ≤ y.end
      by_first [] last ordered there = absurd there
      by_first (x ∷ runs) last ordered there =
          elim there [
            | inl e ↦ omega (arith, last x runs refl, ap (λ (o : Occurrence). o.end) e)
            | inr later ↦ omega (arith, last x runs refl, ordered.in_order.0 y later, ordered.full y (inr later))
          ]

  -- and none is left, where all were walked before it
  pub none-left : FirstEndsBehind (at + 1) (held_runs s.hand) → held_runs s.hand ≡ []
  none-left last = by_first (held_runs s.hand) last sound.in_order
    where
      by_first : (runs : List Occurrence) → FirstEndsBehind (at + 1) runs → AreInOrder runs at → runs ≡ []
      by_first [] last ordered = refl
      by_first (x ∷ runs) last ordered = absurd (omega (arith, last x runs refl, ordered.within x (inl refl)))

-- runs in order are so up to a later place
pub order-later : (runs : List Occurrence) (at at' : ℕ) → at ≤ at' → AreInOrder runs at → AreInOrder runs at'
order-later runs at at' le ordered = record { in_order = ordered.in_order; full = ordered.full; within = λ x there. omega (arith, ordered.within x there) }

-- where the first run begins, once a match is joined that begins behind it
joined-first : (runs : List Occurrence) (m : Occurrence) (place : ℕ) → first_start runs ≡ Some place → place < m.start → first_start (joined_runs runs m) ≡ Some place
joined-first [] m place first behind = cc
joined-first (x ∷ runs) m place first behind =
    let start : x.start ≡ place = cc in
    let apart = x ∷ joined_runs runs m in
    let touching = extended x m ∷ [] in
    elim (cases_lt x.end m.start) [
      | inl before ↦ ap first_start (cond-true (nat_lt x.end m.start) apart touching (lt-ltb x.end m.start before)) ∙ first
      | inr touches ↦
          ap first_start (cond-false (nat_lt x.end m.start) apart touching (le-ltb x.end m.start touches))
          ∙ ap (λ (o : Occurrence). Some o.start) (cond-true (nat_lt x.start m.start) (record { pattern = x.pattern; start = x.start; end = m.end }) m (lt-ltb x.start m.start (omega (arith, start, behind))))
          ∙ first
    ]

-- a match is joined that ends one byte later
module _ (s : CoverProgress) (m : Occurrence) (sound : IsSoundCover s (m.end - 1)) (some : m.start < m.end) where
  pub order-joined : AreInOrder (held_runs s.hand) m.end
  order-joined = order-later (held_runs s.hand) (m.end - 1) m.end (omega arith) sound.in_order

  -- there is room for it, once what is settled was written
  pub room-joined : (place : ℕ) → m.end - s.buffer.least ≤ place → FirstEndsBehind place (held_runs s.hand) → length (joined_runs (held_runs s.hand) m) ≤ room_in s.hand
  room-joined place far last =
      omega (
        arith,
        sound.room,
        few-joined (held_runs s.hand) (m.end - s.buffer.least) (m.end - 1) m sound.in_order (λ x there. omega (arith, all-behind s (m.end - 1) sound place last x there)) (omega arith) some,
      )

  -- its bytes are held, or were fed
  joined-held : s.copied ≤ m.start → s.read ≤ max s.fed m.start + length s.buffer.bytes
  joined-held behind = elim (cases_lt (max s.fed m.start + length s.buffer.bytes) s.read) [
    | inl short ↦ absurd (omega (arith, short, sound.held, sound.kept m.start behind (λ c. omega (arith, short, c.after_start, sound.fed_held c.found c.member))))
    | inr long ↦ long
  ]

  pub sound-joined : (hand : Hand) → held_runs hand ≡ joined_runs (held_runs s.hand) m → m.end ≤ s.read → s.copied ≤ m.start → s.fed ≤ m.start → HasItsFirst hand → room_in hand ≡ room_in s.hand → IsSoundCover (record s { hand = hand }) m.end
  sound-joined hand joined within behind unfed whole room = record {
    small = sound.small;
    walked = within;
    some = sound.some;
    held = sound.held;
    unwalked = omega (arith, sound.unwalked);
    last_held = omega (arith, sound.last_held);
    since_walked = omega (arith, sound.since_walked);
    copied_walked = omega (arith, sound.copied_walked);
    in_order = subst (λ (runs : List Occurrence). AreInOrder runs m.end) (sym joined) (joined-in_order (held_runs s.hand) m (m.end - 1) sound.in_order some);
    behind = λ y there. joined-start (held_runs s.hand) m s.copied sound.behind behind y (subst (λ (runs : List Occurrence). IsMember runs y) joined there);
    kept = λ place low bare. sound.kept place low (λ c.
        let d = joined-has (held_runs s.hand) m place order-joined some (inl c) in
        bare (record { found = d.found; member = subst (λ (runs : List Occurrence). IsMember runs d.found) (sym joined) d.member; after_start = d.after_start; before_end = d.before_end }));
    fed_walked = omega (arith, sound.fed_walked);
    fed_first = λ low. ap first_start joined ∙ joined-first (held_runs s.hand) m s.copied (sound.fed_first low) (omega (arith, low, unfed));
    fed_within = λ y there. elim (member-of_joined (held_runs s.hand) m y (subst (λ (runs : List Occurrence). IsMember runs y) joined there)) [
      | inl old ↦ sound.fed_within y old.0
      | inr last ↦ omega (arith, last.0, unfed, some)
    ];
    fed_held = λ y there. elim (member-of_joined (held_runs s.hand) m y (subst (λ (runs : List Occurrence). IsMember runs y) joined there)) [
      | inl old ↦ sound.fed_held y old.0
      | inr last ↦ elim last.1 [
        | inl own ↦ omega (arith, joined-held behind, own.0)
        | inr other ↦ omega (arith, sound.fed_held other.1.0 other.1.1, other.1.3)
      ]
    ];
    whole = whole;
    room = room ∙ sound.room;
  }

-- the open place is not behind what was walked
pub open-within : (s : CoverProgress) (at : ℕ) → IsSoundCover s at → open_place s at ≤ at
open-within s at sound = omega (arith, sound.since_walked, sound.some)

-- once more was read
module _ (s : CoverProgress) (at : ℕ) (sound : IsSoundCover s at) (last : s.read ≤ at + 1) (near : BareFrom s.copied (held_runs s.hand) (s.read - s.buffer.least)) where
  module _ (x : Occurrence) (rest : List Occurrence) (first : held_runs s.hand ≡ x ∷ rest) where
    member-known : (y : Occurrence) → IsMember (held_runs s.hand) y → (y ≡ x) ⊎ (x.end < y.start) × (y.start < y.end)
    member-known y there = elim (subst (λ (runs : List Occurrence). IsMember runs y) first there) [
      | inl e ↦ inl e
      | inr later ↦ inr (rest-lie s at sound x rest first y later, sound.in_order.full y there)
    ]

    -- the first run begins where all was written, if the buffer may let go of its first byte
    pub first-copied : x.start < s.read - s.buffer.least → x.start ≡ s.copied
    first-copied gone = elim (cases_lt s.copied x.start) [
      | inl before ↦ absurd (omega (
        arith,
        gone,
        near s.copied (omega arith) (λ c. elim (member-known c.found c.member) [
          | inl e ↦ omega (arith, before, c.after_start, ap (λ (o : Occurrence). o.start) e)
          | inr later ↦ omega (arith, before, c.after_start, later, first-lies s at sound x rest first)
        ]),
        before,
      ))
      | inr past ↦ omega (arith, past, first-lies s at sound x rest first)
    ]

    -- and ends in the bytes that it keeps, or behind them
    first-ends : s.read - s.buffer.least ≤ x.end
    first-ends = near x.end (omega (arith, first-lies s at sound x rest first)) (λ c. elim (member-known c.found c.member) [
      | inl e ↦ omega (arith, c.before_end, ap (λ (o : Occurrence). o.end) e)
      | inr later ↦ omega (arith, c.after_start, later)
    ])

    -- once its bytes were fed up to there
    pub sound-fed : (fed : ℕ) → fed ≡ s.read - s.buffer.least → max s.fed x.start < fed → IsSoundCover (record s { fed = fed }) at
    sound-fed fed is more = record {
      small = sound.small;
      walked = sound.walked;
      some = sound.some;
      held = sound.held;
      unwalked = sound.unwalked;
      last_held = sound.last_held;
      since_walked = sound.since_walked;
      copied_walked = sound.copied_walked;
      in_order = sound.in_order;
      behind = sound.behind;
      kept = sound.kept;
      fed_walked = omega (arith, is, last, sound.some);
      fed_first = λ some. ap first_start first ∙ ap Some (first-copied (omega (arith, is, more)));
      fed_within = λ y there. elim (member-known y there) [
        | inl e ↦ omega (arith, is, first-ends, ap (λ (o : Occurrence). o.end) e)
        | inr later ↦ omega (arith, is, first-ends, later)
      ];
      fed_held = λ y there. omega (arith, more, sound.fed_held y there);
      whole = sound.whole;
      room = sound.room;
    }

  pub sound-read : HasFedFirst s → (buffer : Buffered) (read n : ℕ) → read ≡ s.read + n → read < 2 ^ 63 → buffer.least ≡ s.buffer.least → length buffer.bytes ≡ min s.buffer.least (length s.buffer.bytes) + n
      → IsSoundCover (record s { buffer = buffer; read = read }) at
  sound-read fed buffer read n count small least long = record {
    small = small;
    walked = omega (arith, sound.walked);
    some = omega (arith, sound.some);
    held = omega (arith, sound.held);
    unwalked = omega (arith, sound.unwalked, sound.some, last);
    last_held = omega (arith, sound.last_held, sound.some, last);
    since_walked = sound.since_walked;
    copied_walked = sound.copied_walked;
    in_order = sound.in_order;
    behind = sound.behind;
    kept = λ place low bare. omega (arith, sound.kept place low bare, near place low bare);
    fed_walked = sound.fed_walked;
    fed_first = sound.fed_first;
    fed_within = sound.fed_within;
    fed_held = λ x there. omega (arith, sound.fed_held x there, fed x there);
    whole = sound.whole;
    room = sound.room ∙ ap (λ (n : ℕ). n / 2 + 1) (sym least);
  }
