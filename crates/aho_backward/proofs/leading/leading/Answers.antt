-- One number more.
use Rattle.std.proofs.Common.{◌≡◌, ◌<◌, inl, inr, ℕ, true, false, List, [], ◌∷◌, ◌++◌, get_or, length, refl, sym, ◌∙◌, ap, subst, arith}
use Rattle.std.specs.Prelude.{EachIndex, SomeIndex, slice_index, slice_index_or}
use denote.Ref.{Bor}
use Rattle.std.proofs.lemmas.Bool.{cases_lt}
use Rattle.std.proofs.lemmas.List.{get_or-map, get_or_append_left, get_or_push, length-map, length_push}
use Rattle.aho_core.specs.Patterns.{Patterns, pattern_at}
use Rattle.aho_core.specs.Replacement.{pieces_of}
use Rattle.aho_backward.specs.Turned.{IsLeader}
use Rattle.aho_backward.proofs.leading.leading.Goals.{in-Some+in_ok-push, in_default}
use Rattle.aho_backward.proofs.leading.leading.Goals as goal

-- what holds of each number holds of one more
each-push : (Holds : ℕ → Type 0) (numbers longer : List ℕ) (y : ℕ) → longer ≡ numbers ++ y ∷ [] → Holds y → EachIndex numbers (λ i. Holds (slice_index numbers i)) → EachIndex longer (λ i. Holds (slice_index longer i))
each-push Holds numbers longer y is last each =
    subst (λ (xs : List ℕ). EachIndex xs (λ i. Holds (slice_index xs i))) (sym is)
    (λ i lt. elim (cases_lt i (length numbers)) [
      | inl old ↦ subst Holds (sym (get_or_append_left numbers (y ∷ []) 0 i old)) (each i old)
      | inr new ↦ subst Holds (sym (get_or_push numbers y 0 i (omega (arith, lt, length_push numbers y)))) last
    ])

-- a number that stands there still does
some-push : (numbers longer : List ℕ) (y x : ℕ) → longer ≡ numbers ++ y ∷ [] → SomeIndex numbers (λ i. slice_index numbers i ≡ x) → SomeIndex longer (λ i. slice_index longer i ≡ x)
some-push numbers longer y x is some =
    subst (λ (xs : List ℕ). SomeIndex xs (λ i. slice_index xs i ≡ x)) (sym is)
    (some.0, omega (arith, some.1, length_push numbers y), get_or_append_left numbers (y ∷ []) 0 some.0 some.1 ∙ some.2)

last-push : (numbers longer : List ℕ) (y x : ℕ) → longer ≡ numbers ++ y ∷ [] → y ≡ x → SomeIndex longer (λ i. slice_index longer i ≡ x)
last-push numbers longer y x is same =
    subst (λ (xs : List ℕ). SomeIndex xs (λ i. slice_index xs i ≡ x)) (sym is)
    (length numbers, omega (arith, length_push numbers y), get_or_push numbers y 0 (length numbers) (omega arith) ∙ same)

-- the word at a number of the slice is that of the pattern
word-at : (p : Patterns) (patterns : List (Bor (List ℕ))) (number : ℕ) (d : Bor (List ℕ)) → p.words ≡ pieces_of patterns → number < length patterns → pattern_at p number ≡ (get_or patterns number d).now
word-at p patterns number d words lt = ap (λ (ws : List (List ℕ)). slice_index_or ws number []) words ∙ get_or-map (λ (piece : Bor (List ℕ)). piece.now) patterns number d [] lt

count-of : (p : Patterns) (patterns : List (Bor (List ℕ))) → p.words ≡ pieces_of patterns → length p.words ≡ length patterns
count-of p patterns words = ap length words ∙ length-map patterns (λ (piece : Bor (List ℕ)). piece.now)

pub loop-number-preserved : goal.loop-number-preserved
loop-number-preserved g c =
    let inv = c.loop-number.invariant in
    let patterns = c.args.patterns.now in
    let number = c.loop-number.number in
    let old = c.loop-number.numbers.items in
    let new = c.match-leader.numbers.items in
    elim c.match-leader.branch [
      | in-Some+in_ok-push w ↦
          (let pattern = w.in-Some.pattern in
          let items : new ≡ old ++ pattern ∷ [] = ap (λ v. v.items) w.numbers-is ∙ w.in_ok-push.ensures.items in
          let same : pattern ≡ number = w.in-Some.ensures.itself in
          record {
            numbered = each-push (λ k. k < length patterns) old new pattern items (omega (arith, same)) inv.numbered;
            each = λ p of words.
                let leads : IsLeader p number = (w.in-Some.ensures.leads p of (omega (arith, count-of p patterns words)) (word-at p patterns number _ words (omega arith))).0 refl in
                each-push (IsLeader p) old new pattern items (subst (IsLeader p) (sym same) leads) (inv.each p of words);
            all = λ p of words k lt leads.
                elim (cases_lt k number) [
                  | inl before ↦ some-push old new pattern k items (inv.all p of words k before leads)
                  | inr here ↦ (let is : number ≡ k = omega arith in last-push old new pattern k items (same ∙ is))
                ];
          })
      | in_default w ↦
          (let items : new ≡ old = ap (λ v. v.items) w.numbers-is in
          record {
            numbered = subst (λ (xs : List ℕ). EachIndex xs (λ i. slice_index xs i < length patterns)) (sym items) inv.numbered;
            each = λ p of words. subst (λ (xs : List ℕ). EachIndex xs (λ i. IsLeader p (slice_index xs i))) (sym items) (inv.each p of words);
            all = λ p of words k lt leads.
                elim (cases_lt k number) [
                  | inl before ↦ subst (λ (xs : List ℕ). SomeIndex xs (λ i. slice_index xs i ≡ k)) (sym items) (inv.all p of words k before leads)
                  | inr here ↦
                      (let is : k ≡ number = omega arith in
                      let clash : false ≡ true = (w.in_default.ensures.leads p of (omega (arith, count-of p patterns words)) (word-at p patterns number _ words (omega arith))).1 (subst (IsLeader p) is leads) in
                      cc)
                ];
          })
    ]

pub returns-clause-leading : goal.returns-clause-leading
returns-clause-leading g c p of words =
    let inv = c.loop-number.invariant in
    let count = count-of p c.args.patterns.now words in
    record {
      each = λ i lt. (omega (arith, inv.numbered i lt, count), inv.each p of words i lt);
      all = λ k lt leads. inv.all p of words k (omega (arith, count)) leads;
    }
