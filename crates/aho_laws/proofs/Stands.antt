-- Occurrences in a whole word, by the word's parts.
use Rattle.std.proofs.Common.{◌≡◌, ◌⊎◌, inl, inr, ℕ, ◌+◌, ◌-◌, ◌<◌, ◌≤◌, true, List, [], ◌++◌, length, map, take, drop, refl, sym, ◌∙◌, ap, arith, append_assoc, length-append, length-take}
use Rattle.std.specs.Prelude.{Option, Some, None, slice_range}
use Rattle.std.proofs.lemmas.List.{length-map, map-append, take-append-drop, take-map, drop-map, take_at, drop_at, nil_from_length}
use Rattle.std.proofs.lemmas.List.Folds.{drop_split}
use Rattle.aho_core.specs.declared.search.Anchored.{Anchored}
use Rattle.aho_core.specs.declared.search.Anchored.TheVariants.{Yes}
use Rattle.aho_core.specs.declared.search.MatchKind.{MatchKind}
use Rattle.aho_core.specs.declared.search.MatchKind.TheVariants.{Standard, LeftmostFirst, LeftmostLongest}
use Rattle.aho_laws.proofs.Begins.{Begins, two_cuts}
use Rattle.aho_core.specs.Best.{IsBestOrNone}
use Rattle.aho_core.specs.Bytes.{folded, folded_word}
use Rattle.aho_core.specs.Failure.{is_leftmost}
use Rattle.aho_core.specs.Laws.{BestAfter}
use Rattle.aho_core.specs.Occurrence.{Occurrence}
use Rattle.aho_core.specs.Occurs.{Occurs}
use Rattle.aho_core.specs.Order.{IsBefore}
use Rattle.aho_core.specs.Patterns.{Patterns, pattern_at}
use Rattle.aho_core.specs.Trie.{pattern_word}

-- the match's pattern stands in the word w: w is a front, the pattern, and a rest
pub record Stands (p : Patterns) (anchored : Anchored) (w : List ℕ) (m : Occurrence) : Type 0 where
  pub below : m.pattern < length p.words
  pub front : List ℕ
  pub rest : List ℕ
  pub parts : w ≡ front ++ (pattern_word p m.pattern ++ rest)
  pub start : m.start ≡ length front
  pub end : m.end ≡ length front + length (pattern_word p m.pattern)
  pub at : anchored ≡ Yes → m.start ≡ 0

-- the best of what stands in a word
abbrev pub BestIn : Patterns → Anchored → List ℕ → Option Occurrence → Type 0
BestIn p anchored w r = IsBestOrNone p.kind (Stands p anchored w) r

-- the best of a set is the best of an equal set
pub best_same : (kind : MatchKind) (S T : Occurrence → Type 0) (r : Option Occurrence) → ((m : Occurrence) → S m → T m) → ((m : Occurrence) → T m → S m) → IsBestOrNone kind S r → IsBestOrNone kind T r
best_same kind S T None there back best = λ n t. best n (back n t)
best_same kind S T (Some m) there back best = (there m best.0, λ n t. best.1 n (back n t))

module _ (p : Patterns) where
  -- folding keeps lengths
  pub length-pattern_word : (k : ℕ) → length (pattern_word p k) ≡ length (pattern_at p k)
  unfolding pattern_word
  length-pattern_word k = length-map (pattern_at p k) (folded p)

  pub length-folded : (w : List ℕ) → length (folded_word p w) ≡ length w
  length-folded w = length-map w (folded p)

module _ (p : Patterns) (anchored : Anchored) where
  -- an occurrence is as long as its pattern, and ends in the word
  pub stands_length : (w : List ℕ) (m : Occurrence) → Stands p anchored w m → (m.start + length (pattern_word p m.pattern) ≡ m.end) × (m.end ≤ length w)
  stands_length w m o =
      let long : length w ≡ length o.front + (length (pattern_word p m.pattern) + length o.rest) =
      ap length o.parts ∙ length-append o.front (pattern_word p m.pattern ++ o.rest) ∙ ap (λ (n : ℕ). length o.front + n) (length-append (pattern_word p m.pattern) o.rest) in
      (omega (arith, o.start, o.end), omega (arith, o.end))

  -- an occurrence in a whole word stands there, and the other way round
  pub from_occurs : (h : List ℕ) (m : Occurrence) → Occurs p anchored h 0 (length h) m → Stands p anchored (folded_word p h) m
  unfolding pattern_word
  from_occurs h m o =
      let le : m.start ≤ m.end = omega (arith, o.sized) in
      let front : length (folded_word p (take m.start h)) ≡ m.start = length-map (take m.start h) (folded p) ∙ omega (arith, length-take m.start h, o.before_end) in
      let long : length (pattern_word p m.pattern) ≡ length (pattern_at p m.pattern) = length-map (pattern_at p m.pattern) (folded p) in
      record {
        below = o.numbered;
        front = folded_word p (take m.start h);
        rest = folded_word p (drop m.end h);
        parts =
            ap (map (folded p)) (sym (take-append-drop m.start h) ∙ ap (λ (t : List ℕ). take m.start h ++ t) (drop_split h m.start m.end le))
            ∙ map-append (folded p) (take m.start h) (slice_range h m.start m.end ++ drop m.end h)
            ∙ ap (λ (t : List ℕ). folded_word p (take m.start h) ++ t)
            (map-append (folded p) (slice_range h m.start m.end) (drop m.end h) ∙ ap (λ (t : List ℕ). t ++ folded_word p (drop m.end h)) (sym o.same));
        start = sym front;
        end = omega (arith, front, long, o.sized);
        at = o.admitted;
      }

  pub to_occurs : (h : List ℕ) (m : Occurrence) → Stands p anchored (folded_word p h) m → Occurs p anchored h 0 (length h) m
  unfolding pattern_word
  to_occurs h m o =
      let sizes = stands_length (folded_word p h) m o in
      let long : length (pattern_word p m.pattern) ≡ length (pattern_at p m.pattern) = length-pattern_word p m.pattern in
      let gap : length (pattern_word p m.pattern) ≡ m.end - m.start = omega (arith, sizes.0) in
      let there : map (folded p) (slice_range h m.start m.end) ≡ pattern_word p m.pattern =
      sym (take-map (folded p) (m.end - m.start) (drop m.start h))
      ∙ ap (take (m.end - m.start)) (sym (drop-map (folded p) m.start h) ∙ ap (drop m.start) o.parts ∙ drop_at o.front (pattern_word p m.pattern ++ o.rest) m.start (sym o.start))
      ∙ take_at (pattern_word p m.pattern) o.rest (m.end - m.start) gap in
      record {
        numbered = o.below;
        after_start = omega arith;
        before_end = omega (arith, sizes.1, length-map h (folded p));
        sized = omega (arith, sizes.0, long);
        same = sym there;
        admitted = o.at;
      }

  -- so the best occurrence is the best of what stands there
  pub best_in : (h : List ℕ) (r : Option Occurrence) → BestAfter p anchored h r → BestIn p anchored (folded_word p h) r
  best_in h r best = best_same p.kind (Occurs p anchored h 0 (length h)) (Stands p anchored (folded_word p h)) r (from_occurs h) (to_occurs h) best

  pub best_after : (h : List ℕ) (r : Option Occurrence) → BestIn p anchored (folded_word p h) r → BestAfter p anchored h r
  best_after h r best = best_same p.kind (Stands p anchored (folded_word p h)) (Occurs p anchored h 0 (length h)) r (to_occurs h) (from_occurs h) best

  -- what stands in a word stands in a longer one, and the other way round where it ends within the word
  pub stands_more : (z w y : List ℕ) (m : Occurrence) → z ≡ w ++ y → Stands p anchored w m → Stands p anchored z m
  stands_more z w y m e o = record {
    below = o.below;
    front = o.front;
    rest = o.rest ++ y;
    parts = e ∙ ap (λ (t : List ℕ). t ++ y) o.parts ∙ append_assoc o.front (pattern_word p m.pattern ++ o.rest) y ∙ ap (λ (t : List ℕ). o.front ++ t) (append_assoc (pattern_word p m.pattern) o.rest y);
    start = o.start;
    end = o.end;
    at = o.at;
  }

  pub stands_less : (z w y : List ℕ) (m : Occurrence) → z ≡ w ++ y → m.end ≤ length w → Stands p anchored z m → Stands p anchored w m
  stands_less z w y m e le o =
      let word = pattern_word p m.pattern in
      let both : length (o.front ++ word) ≡ m.end = length-append o.front word ∙ sym o.end in
      let cuts = two_cuts (o.front ++ word) o.rest w y (append_assoc o.front word o.rest ∙ sym o.parts ∙ e) (omega arith) in
      record {
        below = o.below;
        front = o.front;
        rest = cuts.0;
        parts = cuts.1 ∙ append_assoc o.front word cuts.0;
        start = o.start;
        end = o.end;
        at = o.at;
      }

  -- a pattern stands where it begins what is left of the word
  pub stands_at : (z pre v : List ℕ) (k e : ℕ) → z ≡ pre ++ v → (anchored ≡ Yes → pre ≡ []) → k < length p.words → Begins (pattern_word p k) v → e ≡ length pre + length (pattern_word p k)
      → Stands p anchored z (record { pattern = k; start = length pre; end = e })
  stands_at z pre v k e parts at lt b long = record {
    below = lt;
    front = pre;
    rest = b.0;
    parts = parts ∙ ap (λ (t : List ℕ). pre ++ t) (sym b.1);
    start = refl;
    end = long;
    at = λ y. ap length (at y);
  }

  -- and what stands where something is left begins that
  pub begins_at : (z pre v : List ℕ) (n : Occurrence) → z ≡ pre ++ v → Stands p anchored z n → n.start ≡ length pre → Begins (pattern_word p n.pattern) v
  begins_at z pre v n parts o e =
      let cuts = two_cuts o.front (pattern_word p n.pattern ++ o.rest) pre v (sym o.parts ∙ parts) (omega (arith, o.start)) in
      let none : cuts.0 ≡ [] = nil_from_length cuts.0 (omega (arith, ap length cuts.1, length-append o.front cuts.0, o.start)) in
      (o.rest, cuts.2 ∙ ap (λ (t : List ℕ). t ++ v) none)

-- the order of matches, by parts
pub before_later : (kind : MatchKind) (m n : Occurrence) → is_leftmost kind ≡ true → m.start < n.start → IsBefore kind m n
before_later Standard m n leftmost lt = cc
before_later LeftmostFirst m n leftmost lt = inl lt
before_later LeftmostLongest m n leftmost lt = inl lt

-- of two that start at one place: LeftmostFirst prefers the lesser number, LeftmostLongest the longer
pub before_number : (kind : MatchKind) (m n : Occurrence) → kind ≡ LeftmostFirst → m.start ≡ n.start → m.pattern < n.pattern → IsBefore kind m n
before_number Standard m n is e lt = cc
before_number LeftmostFirst m n is e lt = inr (e, lt)
before_number LeftmostLongest m n is e lt = cc

pub before_longer : (kind : MatchKind) (m n : Occurrence) → kind ≡ LeftmostLongest → m.start ≡ n.start → (n.end < m.end) ⊎ ((m.end ≡ n.end) × (m.pattern < n.pattern)) → IsBefore kind m n
before_longer Standard m n is e h = cc
before_longer LeftmostFirst m n is e h = cc
before_longer LeftmostLongest m n is e h = inr (e, h)

-- a best member starts no later than another, and under LeftmostFirst has no greater number where both start at one place
pub best_starts : (kind : MatchKind) (m n : Occurrence) → is_leftmost kind ≡ true → (n ≡ m) ⊎ IsBefore kind m n → m.start ≤ n.start
best_starts kind m n leftmost (inl e) = omega (arith, ap (λ (x : Occurrence). x.start) e)
best_starts Standard m n leftmost (inr h) = cc
best_starts LeftmostFirst m n leftmost (inr h) = elim h [ inl lt ↦ omega arith | inr e ↦ omega (arith, e.0) ]
best_starts LeftmostLongest m n leftmost (inr h) = elim h [ inl lt ↦ omega arith | inr e ↦ omega (arith, e.0) ]

pub best_number : (kind : MatchKind) (m n : Occurrence) → kind ≡ LeftmostFirst → (n ≡ m) ⊎ IsBefore kind m n → m.start ≡ n.start → m.pattern ≤ n.pattern
best_number kind m n is (inl e) same = omega (arith, ap (λ (x : Occurrence). x.pattern) e)
best_number Standard m n is (inr h) same = cc
best_number LeftmostFirst m n is (inr h) same = elim h [ inl lt ↦ absurd (omega arith) | inr e ↦ omega (arith, e.1) ]
best_number LeftmostLongest m n is (inr h) same = cc
