-- Where the first occurrence of a word starts.
use Rattle.std.proofs.Common.{◌≡◌, ◌⊎◌, inl, inr, ℕ, ◌+◌, ◌-◌, ◌<◌, ◌≤◌, true, false, List, [], ◌∷◌, ◌++◌, length, refl, sym, ◌∙◌, ap, arith}
use Rattle.std.specs.Prelude.{Some, None}
use Rattle.std.proofs.lemmas.Bool.{cases_Bool, cases_lt, cond-true, cond-false}
use Rattle.aho_core.specs.declared.search.Anchored.{Anchored}
use Rattle.aho_core.specs.declared.search.Anchored.TheVariants.{No, Yes}
use Rattle.aho_laws.proofs.Begins.{Begins}
use Rattle.aho_laws.proofs.Kept.{is_cut-from, starts_here}
use Rattle.aho_laws.proofs.StepLaw.{state-node, state-cut, state-shorter}
use Rattle.aho_laws.proofs.Stands.{Stands, begins_at, stands_length}
use Rattle.aho_core.specs.Failure.{is_cut, is_leftmost, state_after}
use Rattle.aho_core.specs.MatchList.{leftmost_matches, own_matches}
use Rattle.aho_core.specs.Occurrence.{Occurrence}
use Rattle.aho_core.specs.Patterns.{Patterns}
use Rattle.aho_core.specs.Trie.{is_node, pattern_word}

-- nothing starts before v in z, and something starts at v, or nothing occurs
pub record Front (p : Patterns) (anchored : Anchored) (z pre v : List ℕ) : Type 0 where
  pub parts : z ≡ pre ++ v
  pub none_before : (m : Occurrence) → Stands p anchored z m → length pre ≤ m.start
  pub some : (is_cut p v ≡ true) ⊎ ((m : Occurrence) → Stands p anchored z m → ⊥)
  pub at : anchored ≡ Yes → pre ≡ []

-- an occurrence, seen from the second byte on
abbrev pub moved_back : Occurrence → Occurrence
moved_back m = record { pattern = m.pattern; start = m.start - 1; end = m.end - 1 }

module _ (p : Patterns) where
  -- by the parts before, which are not empty
  later_parts : (x : ℕ) (z : List ℕ) (n : Occurrence) (front rest : List ℕ) → 0 < n.start → n.pattern < length p.words
      → x ∷ z ≡ front ++ (pattern_word p n.pattern ++ rest) → n.start ≡ length front → n.end ≡ length front + length (pattern_word p n.pattern)
      → Stands p No z (moved_back n)
  later_parts x z n [] rest later lt parts start end = absurd (omega arith)
  later_parts x z n (y ∷ front) rest later lt parts start end =
      record { below = lt; front = front; rest = rest; parts = cc; start = omega arith; end = omega arith; at = λ e. cc }

  -- what occurs after a word's first byte occurs in what follows that byte
  pub stands_back : (x : ℕ) (z : List ℕ) (n : Occurrence) → 0 < n.start → Stands p No (x ∷ z) n → Stands p No z (moved_back n)
  stands_back x z n later o = later_parts x z n o.front o.rest later o.below o.parts o.start o.end

  -- where no pattern begins the word, what occurs in it occurs after its first byte
  pub stands_later : (x : ℕ) (z : List ℕ) (n : Occurrence) → (Begins (pattern_word p n.pattern) (x ∷ z) → ⊥) → Stands p No (x ∷ z) n → (0 < n.start) × Stands p No z (moved_back n)
  stands_later x z n none o =
      elim (cases_lt 0 n.start) [
        | inl later ↦ (later, stands_back x z n later o)
        | inr here ↦ absurd (none (begins_at p No (x ∷ z) [] (x ∷ z) n refl o (omega arith)))
      ]

  module _ (leftmost : is_leftmost p.kind ≡ true) where
    -- what is not cut begins with no pattern
    not_here : (v : List ℕ) (k : ℕ) → is_cut p v ≡ false → k < length p.words → Begins (pattern_word p k) v → ⊥
    not_here v k uncut lt b = let clash : true ≡ false = sym (is_cut-from p v k leftmost lt b) ∙ uncut in cc

    -- the front of a word of an unanchored search, and what is listed there
    pub front_of : (z : List ℕ) → (pre v : List ℕ) × Front p No z pre v × (leftmost_matches p z ≡ own_matches p v)
    front_of [] = (
      [],
      [],
      record {
        parts = refl;
        none_before = λ n o. omega arith;
        some = elim (cases_Bool (is_cut p [])) [
          | inl cut ↦ inl cut
          | inr uncut ↦ inr (λ n o. not_here [] n.pattern uncut o.below (begins_at p No [] [] [] n refl o (omega (arith, (stands_length p No [] n o).0, (stands_length p No [] n o).1))))
        ];
        at = λ e. refl;
      },
      refl,
    )
    front_of (x ∷ z) =
        elim (cases_Bool (is_cut p (x ∷ z))) [
          | inl cut ↦ (
            [],
            x ∷ z,
            record { parts = refl; none_before = λ n o. omega arith; some = inl cut; at = λ e. refl },
            cond-true (is_cut p (x ∷ z)) (own_matches p (x ∷ z)) (leftmost_matches p z) cut,
          )
          | inr uncut ↦
              (let t = front_of z in (
                x ∷ t.0,
                t.1,
                record {
                  parts = ap (λ (w : List ℕ). x ∷ w) t.2.parts;
                  none_before = λ n o. let s = stands_later x z n (not_here (x ∷ z) n.pattern uncut o.below) o in omega (arith, s.0, t.2.none_before (moved_back n) s.1);
                  some = elim t.2.some [ inl cut ↦ inl cut | inr none ↦ inr (λ n o. none (moved_back n) (stands_later x z n (not_here (x ∷ z) n.pattern uncut o.below) o).1) ];
                  at = λ e. cc;
                },
                cond-false (is_cut p (x ∷ z)) (own_matches p (x ∷ z)) (leftmost_matches p z) uncut ∙ t.3,
              ))
        ]

    -- an anchored search has its front at the start
    pub front_anchored : (z : List ℕ) → Front p Yes z [] z
    front_anchored z = record {
      parts = refl;
      none_before = λ n o. omega arith;
      some = elim (cases_Bool (is_cut p z)) [ inl cut ↦ inl cut | inr uncut ↦ inr (λ n o. not_here z n.pattern uncut o.below (begins_at p Yes z [] z n refl o (o.at refl))) ];
      at = λ e. refl;
    }

    -- before the state's word nothing starts, whatever follows
    nothing_starts : (v y : List ℕ) (k : ℕ) → is_node p v ≡ false → is_cut p v ≡ false → k < length p.words → Begins (pattern_word p k) (v ++ y) → ⊥
    nothing_starts v y k other uncut lt b =
        elim (starts_here p v y k leftmost lt b) [ inl cut ↦ (let clash : true ≡ false = sym cut ∙ uncut in cc) | inr node ↦ (let clash : true ≡ false = sym node ∙ other in cc) ]

    -- so while the state is not dead nothing starts before its word, whatever follows
    pub live_front : (w u : List ℕ) → state_after p w ≡ Some u → (pre : List ℕ) × (w ≡ pre ++ u) × ((y : List ℕ) (n : Occurrence) → Stands p No (w ++ y) n → length pre ≤ n.start)
    live_front [] u e = let same : [] ≡ u = cc in ([], same, λ y n o. omega arith)
    live_front (x ∷ w) u e =
        elim (cases_Bool (is_node p (x ∷ w))) [
          | inl node ↦ (let same : Some (x ∷ w) ≡ Some u = sym (state-node p x w node) ∙ e in ([], cc, λ y n o. omega arith))
          | inr other ↦
              elim (cases_Bool (is_cut p (x ∷ w))) [
                | inl cut ↦ (let clash : None ≡ Some u = sym (state-cut p x w other cut) ∙ e in cc)
                | inr uncut ↦
                    (let t = live_front w u (sym (state-shorter p x w other uncut) ∙ e) in (
                      x ∷ t.0,
                      ap (λ (v : List ℕ). x ∷ v) t.1,
                      λ y n o. let s = stands_later x (w ++ y) n (nothing_starts (x ∷ w) y n.pattern other uncut o.below) o in omega (arith, s.0, t.2 y (moved_back n) s.1),
                    ))
              ]
        ]

    -- where the state is dead a pattern stands, and nothing starts before it, whatever follows
    pub dead_front : (w : List ℕ) → state_after p w ≡ None
        → (pre v : List ℕ) × (w ≡ pre ++ v) × (is_cut p v ≡ true) × (is_node p v ≡ false) × ((y : List ℕ) (n : Occurrence) → Stands p No (w ++ y) n → length pre ≤ n.start)
    dead_front [] e = cc
    dead_front (x ∷ w) e =
        elim (cases_Bool (is_node p (x ∷ w))) [
          | inl node ↦ (let clash : Some (x ∷ w) ≡ None = sym (state-node p x w node) ∙ e in cc)
          | inr other ↦
              elim (cases_Bool (is_cut p (x ∷ w))) [
                | inl cut ↦ ([], x ∷ w, refl, cut, other, λ y n o. omega arith)
                | inr uncut ↦
                    (let t = dead_front w (sym (state-shorter p x w other uncut) ∙ e) in (
                      x ∷ t.0,
                      t.1,
                      ap (λ (v : List ℕ). x ∷ v) t.2,
                      t.3,
                      t.4,
                      λ y n o. let s = stands_later x (w ++ y) n (nothing_starts (x ∷ w) y n.pattern other uncut o.below) o in omega (arith, s.0, t.5 y (moved_back n) s.1),
                    ))
              ]
        ]
