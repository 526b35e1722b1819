-- Why a build stops, and that none has stopped before its patterns pass a limit.
use Rattle.std.proofs.Common.{◌≡◌, ℕ, Bool, true, cond, Result, Ok, Err, ◌+◌, ◌<◌, ◌≤◌, ◌⊎◌, List, [], ◌∷◌, ◌++◌, drop, length, map, take, Option, Some, None, refl, sym, ap, subst, ◌∙◌, inl, inr, arith}
use Rattle.std.proofs.lemmas.Bool.{cases_Bool, cases_lt, le-ltb, lt-ltb}
use Rattle.std.proofs.lemmas.List.{append-nil, length_push, length-append, map-append, take-append-drop, take-append-le}
use Rattle.std.proofs.lemmas.List.Elements.{All-nil, All-push}
use Rattle.std.proofs.lemmas.List.Sums.{sum_by-append}
use Rattle.std.specs.Prelude.{find, sum_by}
use Rattle.std.specs.List.{All}
use Rattle.std.specs.Result.{IfErr, IsErrAnd}
use denote.Ref.{Bor}
use Rattle.aho_core.specs.declared.error.BuildError.{BuildError}
use Rattle.aho_core.specs.declared.error.BuildError.TheVariants.{PatternIDOverflow, PatternTooLong}
use Rattle.aho_core.specs.Patterns.{Patterns, pattern_at}
use Rattle.aho_core.specs.Trie.{is_kept}
use Rattle.aho_build.specs.declared.settings.Settings.{Settings}
use Rattle.aho_build.specs.Settings.{in_force}
use Rattle.aho_build.specs.TrieGrowth.{AreWithin, IsPatternRefusal}
use Rattle.aho_build.specs.Trie.{HoldsFirst}
use Rattle.aho_build.specs.Items.{patterns_of, IsFirstRefused, IsStopped}
use Rattle.aho_table.specs.Refusal.{IsRefusalOf}
use Rattle.aho_build.specs.Sizes.{kept_before, new_nodes, nodes_before, transitions_for}
use Rattle.aho_build.specs.Refusals.{Growth, PatternNumber, PatternLength, TableIndex, is_refused, entries_from, growth_for_kept, growth_for, first_growth, trie_growth, followed_by, refusal_of, IsAccepted}
use Rattle.aho_build.specs.declared.settings.Limits.{Limits}
use Rattle.aho_table.specs.Table.{State, IsWithinLimit}
use Rattle.aho_build.proofs.MorePatterns.{IsNumbered-next, patterns_next, words_before, words_next}
use Rattle.aho_build.proofs.RefusedGrowths.{trie_growth-appended, trie_cause-longer, find-after, find-first, entries_from-within, entries_from-past, IsCause-found}
use Rattle.aho_build.proofs.NodesInOrder.{nodes_before-kept, kept_before-kept}

-- what holds of the error that `?` hands on
pub IfErr-given : {X E : Type 0} (P : E → Type 0) (result : Result X E) (error : E) → IsErrAnd result (λ e. e ≡ error) → P error → IfErr result P
IfErr-given P (Ok x) error is holds = tt
IfErr-given P (Err e) error is holds = subst P (sym is) holds

module _ (settings : Settings) where
  pub AreWithin-none : AreWithin settings (patterns_of settings [])
  AreWithin-none = record { numbers_within = omega arith; lengths_within = All-nil (λ (word : List ℕ). length word ≤ (in_force settings).length) }

  pub AreWithin-next : (items : List (Bor (List ℕ))) (item : Bor (List ℕ)) (place : ℕ) → place ≡ length (words_before settings items item) → place ≤ (in_force settings).pattern → length item.now ≤ (in_force settings).length
      → AreWithin settings (patterns_of settings items) → AreWithin settings (patterns_of settings (items ++ item ∷ []))
  AreWithin-next items item place counted low short within =
      let words : List (List ℕ) = words_before settings items item in
      let words_are = words_next settings items item in
      record {
        numbers_within = omega (arith, ap length words_are, length_push words item.now, counted, low);
        lengths_within = subst (All (λ (word : List ℕ). length word ≤ (in_force settings).length)) (sym words_are)
            (All-push (λ (word : List ℕ). length word ≤ (in_force settings).length) words item.now within.lengths_within short);
      }

-- the first transitions are within the limit
pub HoldsFirst-room : (p : Patterns) (limit : ℕ) (states : List State) → HoldsFirst p 0 states → IsWithinLimit limit states → 769 ≤ limit + 1
HoldsFirst-room p limit states holds within = subst (λ (n : ℕ). n ≤ limit + 1) holds.counted.transitions within.transitions

module _ (settings : Settings) where
  abbrev limits : Limits
  limits = in_force settings

  -- three tables grow one after another
  parts-within : (a m b n c k : ℕ) → a + m ≤ limits.id + 1 → b + n ≤ limits.id + 1 → c + k ≤ limits.id + 1
      → find (is_refused settings) (entries_from a m ++ (entries_from b n ++ entries_from c k)) ≡ None
  parts-within a m b n c k one two three =
      find-after settings (entries_from a m) (entries_from b n ++ entries_from c k) (entries_from-within settings a m one)
      ∙ find-after settings (entries_from b n) (entries_from c k) (entries_from-within settings b n two)
      ∙ entries_from-within settings c k three

  parts-past : (a m b n c k : ℕ) → a ≤ limits.id + 1 → b ≤ limits.id + 1 → c ≤ limits.id + 1
      → (limits.id + 1 < a + m) ⊎ ((limits.id + 1 < b + n) ⊎ (limits.id + 1 < c + k))
      → find (is_refused settings) (entries_from a m ++ (entries_from b n ++ entries_from c k)) ≡ Some (TableIndex (limits.id + 1))
  parts-past a m b n c k one two three past =
      elim (cases_lt (limits.id + 1) (a + m)) [
        | inl first ↦ find-first settings (entries_from a m) (entries_from b n ++ entries_from c k) (TableIndex (limits.id + 1)) (entries_from-past settings a m one first)
        | inr fits ↦
            find-after settings (entries_from a m) (entries_from b n ++ entries_from c k) (entries_from-within settings a m fits)
            ∙ elim (cases_lt (limits.id + 1) (b + n)) [
              | inl second ↦ find-first settings (entries_from b n) (entries_from c k) (TableIndex (limits.id + 1)) (entries_from-past settings b n two second)
              | inr fits_too ↦
                  find-after settings (entries_from b n) (entries_from c k) (entries_from-within settings b n fits_too)
                  ∙ entries_from-past settings c k three (elim past [ inl at ↦ absurd (omega arith) | inr rest ↦ elim rest [ inl at ↦ absurd (omega arith) | inr at ↦ at ] ])
            ]
      ]

  -- before the first pattern
  growth_of_none : find (is_refused settings) (trie_growth (patterns_of settings [])) ≡ find (is_refused settings) (entries_from 0 769)
  growth_of_none = ap (find (is_refused settings)) (append-nil first_growth)

  pub IsAccepted-none : 769 ≤ limits.id + 1 → IsAccepted settings (patterns_of settings [])
  IsAccepted-none room = record { none = growth_of_none ∙ entries_from-within settings 0 769 room }

  pub IsStopped-first : (error : BuildError) → IsRefusalOf limits.id 769 error → IsStopped settings [] error
  IsStopped-first error refusal =
      elim refusal [
        | inl memory ↦ inl memory
        | inr full ↦
            (let found = IsCause-found settings (patterns_of settings []) (TableIndex (limits.id + 1)) (growth_of_none ∙ entries_from-past settings 0 769 (omega arith) full.1) in
            let fewer = λ (count : ℕ) (less : count < 0). absurd (omega (arith, less)) in
            inr (TableIndex (limits.id + 1), record { cause = found; fewer = fewer }, full.0))
      ]

  none_of : (o : Option Growth) → ((g : Growth) → o ≡ Some g → ⊥) → o ≡ None
  none_of None other = refl
  none_of (Some g) other = absurd (other g refl)

  -- what is accepted is accepted of fewer items
  IsAccepted-fewer : (items : List (Bor (List ℕ))) (count : ℕ) → IsAccepted settings (patterns_of settings items) → IsAccepted settings (patterns_of settings (take count items))
  IsAccepted-fewer items count accepted =
      let shorter = patterns_of settings (take count items) in
      let more : List (List ℕ) = map (λ (i : Bor (List ℕ)). i.now) (drop count items) in
      let all : patterns_of settings items ≡ followed_by shorter more =
      ap (patterns_of settings) (sym (take-append-drop count items))
      ∙ ap (λ (words : List (List ℕ)). record shorter { words = words }) (map-append (λ (i : Bor (List ℕ)). i.now) (take count items) (drop count items)) in
      record {
        none = none_of (find (is_refused settings) (trie_growth shorter))
            (λ g some.
            let clash : None ≡ Some g = sym accepted.none ∙ ap (λ (p : Patterns). find (is_refused settings) (trie_growth p)) all ∙ trie_cause-longer settings shorter more g some in
            cc);
      }

  -- at one pattern more
  module _ (items : List (Bor (List ℕ))) (item : Bor (List ℕ)) (place : ℕ) (counted : place ≡ length (words_before settings items item))
      (accepted : IsAccepted settings (patterns_of settings items)) where
    abbrev next : Patterns
    next = patterns_next settings items item

    -- they are the fewest of which something is refused
    IsFirstRefused-next : (refused : Growth) → find (is_refused settings) (trie_growth next) ≡ Some refused → IsFirstRefused settings (items ++ item ∷ []) refused
    IsFirstRefused-next refused found = record {
      cause = IsCause-found settings next refused found;
      fewer = λ count less.
          let within : count ≤ length items = omega (arith, less, length_push items item) in
          subst (λ (taken : List (Bor (List ℕ))). IsAccepted settings (patterns_of settings taken)) (sym (take-append-le count items (item ∷ []) within)) (IsAccepted-fewer items count accepted);
    }

    abbrev with_words : List (List ℕ) → Patterns
    with_words words = record { words = words; kind = settings.kind; ignore_case = settings.ignore_case }

    trie_growth-next : trie_growth next ≡ trie_growth (patterns_of settings items) ++ growth_for next place
    trie_growth-next =
        let before = patterns_of settings items in
        let words = words_next settings items item in
        ap (λ (ws : List (List ℕ)). trie_growth (with_words ws)) words
        ∙ trie_growth-appended before (item.now ∷ [])
        ∙ ap (λ (l : List Growth). trie_growth before ++ l) (append-nil (growth_for (followed_by before (item.now ∷ [])) (length before.words)))
        ∙ ap (λ (ws : List (List ℕ)). trie_growth before ++ growth_for (with_words ws) (length before.words)) (sym words)
        ∙ ap (λ (n : ℕ). trie_growth before ++ growth_for next n) (sym counted)

    pattern_is : pattern_at next place ≡ item.now
    pattern_is = (IsNumbered-next settings items item place counted).pattern_is

    found_next : find (is_refused settings) (trie_growth next) ≡ find (is_refused settings) (growth_for next place)
    found_next = ap (find (is_refused settings)) trie_growth-next ∙ find-after settings (trie_growth (patterns_of settings items)) (growth_for next place) accepted.none

    abbrev rest_of : Bool → List Growth
    rest_of kept = cond kept (growth_for_kept next place) []

    -- its number is above the limit
    pub IsStopped-number : (error : BuildError) → (place ≤ limits.pattern → ⊥) → error ≡ PatternIDOverflow limits.pattern place → IsStopped settings (items ++ item ∷ []) error
    IsStopped-number error high is =
        let above : limits.pattern < place = elim (cases_lt limits.pattern place) [ inl more ↦ more | inr low ↦ absurd (high low) ] in
        let found : find (is_refused settings) (trie_growth next) ≡ Some (PatternNumber place) =
        found_next
        ∙ ap (λ (b : Bool). cond b (Some (PatternNumber place)) (find (is_refused settings) (PatternLength place (length (pattern_at next place)) ∷ rest_of (is_kept next place)))) (lt-ltb limits.pattern place above) in
        inr (PatternNumber place, IsFirstRefused-next (PatternNumber place) found, is)

    module _ (low : place ≤ limits.pattern) where
      found_number : find (is_refused settings) (trie_growth next) ≡ find (is_refused settings) (PatternLength place (length item.now) ∷ rest_of (is_kept next place))
      found_number =
          found_next
          ∙ ap (λ (b : Bool). cond b (Some (PatternNumber place)) (find (is_refused settings) (PatternLength place (length (pattern_at next place)) ∷ rest_of (is_kept next place)))) (le-ltb limits.pattern place low)
          ∙ ap (λ (word : List ℕ). find (is_refused settings) (PatternLength place (length word) ∷ rest_of (is_kept next place))) pattern_is

      -- it is too long
      pub IsStopped-length : (error : BuildError) → (length item.now ≤ limits.length → ⊥) → error ≡ PatternTooLong place (length item.now) limits.length → IsStopped settings (items ++ item ∷ []) error
      IsStopped-length error long is =
          let above : limits.length < length item.now = elim (cases_lt limits.length (length item.now)) [ inl more ↦ more | inr short ↦ absurd (long short) ] in
          let found : find (is_refused settings) (trie_growth next) ≡ Some (PatternLength place (length item.now)) =
          found_number ∙ ap (λ (b : Bool). cond b (Some (PatternLength place (length item.now))) (find (is_refused settings) (rest_of (is_kept next place)))) (lt-ltb limits.length (length item.now) above) in
          inr (PatternLength place (length item.now), IsFirstRefused-next (PatternLength place (length item.now)) found, is)

      module _ (short : length item.now ≤ limits.length) where
        found_length : find (is_refused settings) (trie_growth next) ≡ find (is_refused settings) (rest_of (is_kept next place))
        found_length =
            found_number ∙ ap (λ (b : Bool). cond b (Some (PatternLength place (length item.now))) (find (is_refused settings) (rest_of (is_kept next place)))) (le-ltb limits.length (length item.now) short)

        -- how large the tables are with it
        states_with : is_kept next place ≡ true → (4 + length (nodes_before next place)) + length (new_nodes next place) ≡ 4 + length (nodes_before next (place + 1))
        states_with kept = omega (arith, ap length (nodes_before-kept next place kept), length-append (nodes_before next place) (new_nodes next place))

        transitions_with : (f : List ℕ → ℕ) → is_kept next place ≡ true → (769 + sum_by f (nodes_before next place)) + sum_by f (new_nodes next place) ≡ 769 + sum_by f (nodes_before next (place + 1))
        transitions_with f kept = omega (arith, ap (sum_by f) (nodes_before-kept next place kept), sum_by-append f (nodes_before next place) (new_nodes next place))

        matches_with : is_kept next place ≡ true → (1 + length (kept_before next place)) + 1 ≡ 1 + length (kept_before next (place + 1))
        matches_with kept = omega (arith, ap length (kept_before-kept next place kept), length_push (kept_before next place) place)

        -- it is in the trie
        pub IsAccepted-next : (states : List State) → HoldsFirst next (place + 1) states → IsWithinLimit limits.id states → IsAccepted settings next
        IsAccepted-next states holds within = record {
          none = elim (cases_Bool (is_kept next place)) [
            | inr left ↦ found_length ∙ ap (λ (b : Bool). find (is_refused settings) (rest_of b)) left
            | inl kept ↦
                found_length ∙ ap (λ (b : Bool). find (is_refused settings) (rest_of b)) kept
                ∙ parts-within (4 + length (nodes_before next place)) (length (new_nodes next place)) (769 + sum_by (transitions_for next) (nodes_before next place)) (sum_by (transitions_for next) (new_nodes next place))
                (1 + length (kept_before next place)) 1
                (subst (λ (n : ℕ). n ≤ limits.id + 1) (holds.counted.state_count ∙ sym (states_with kept)) within.state_count)
                (subst (λ (n : ℕ). n ≤ limits.id + 1) (holds.counted.transitions ∙ sym (transitions_with (transitions_for next) kept)) within.transitions)
                (subst (λ (n : ℕ). n ≤ limits.id + 1) (holds.counted.matches ∙ sym (matches_with kept)) within.matches)
          ];
        }

        -- or a table is too small for it
        past : (states : List State) (error : BuildError) → HoldsFirst next place states → IsWithinLimit limits.id states → is_kept next place ≡ true
            → (limits.id + 1 < 4 + length (nodes_before next (place + 1)))
            ⊎ ((limits.id + 1 < 769 + sum_by (transitions_for next) (nodes_before next (place + 1))) ⊎ (limits.id + 1 < 1 + length (kept_before next (place + 1))))
            → find (is_refused settings) (trie_growth next) ≡ Some (TableIndex (limits.id + 1))
        past states error holds within kept too_large =
            found_length ∙ ap (λ (b : Bool). find (is_refused settings) (rest_of b)) kept
            ∙ parts-past (4 + length (nodes_before next place)) (length (new_nodes next place)) (769 + sum_by (transitions_for next) (nodes_before next place)) (sum_by (transitions_for next) (new_nodes next place))
            (1 + length (kept_before next place)) 1
            (subst (λ (n : ℕ). n ≤ limits.id + 1) holds.counted.state_count within.state_count)
            (subst (λ (n : ℕ). n ≤ limits.id + 1) holds.counted.transitions within.transitions)
            (subst (λ (n : ℕ). n ≤ limits.id + 1) holds.counted.matches within.matches)
            (elim too_large [
              | inl states ↦ inl (subst (λ (n : ℕ). limits.id + 1 < n) (sym (states_with kept)) states)
              | inr other ↦
                  elim other [
                    | inl transitions ↦ inr (inl (subst (λ (n : ℕ). limits.id + 1 < n) (sym (transitions_with (transitions_for next) kept)) transitions))
                    | inr matches ↦ inr (inr (subst (λ (n : ℕ). limits.id + 1 < n) (sym (matches_with kept)) matches))
                  ]
            ])

        pub IsStopped-pattern : (states : List State) (error : BuildError) → HoldsFirst next place states → IsWithinLimit limits.id states → IsPatternRefusal limits.id next place error → IsStopped settings (items ++ item ∷ []) error
        IsStopped-pattern states error holds within refusal =
            let stop = λ (full : error ≡ refusal_of settings (TableIndex (limits.id + 1)))
            (too_large : (limits.id + 1 < 4 + length (nodes_before next (place + 1)))
            ⊎ ((limits.id + 1 < 769 + sum_by (transitions_for next) (nodes_before next (place + 1))) ⊎ (limits.id + 1 < 1 + length (kept_before next (place + 1))))).
            let found = past states error holds within refusal.0 too_large in
            let stopped : IsStopped settings (items ++ item ∷ []) error = inr (TableIndex (limits.id + 1), IsFirstRefused-next (TableIndex (limits.id + 1)) found, full) in
            stopped in
            elim refusal.1 [
              | inl states ↦ elim states [ inl memory ↦ inl memory | inr full ↦ stop full.0 (inl full.1) ]
              | inr other ↦
                  elim other [
                    | inl transitions ↦ elim transitions [ inl memory ↦ inl memory | inr full ↦ stop full.0 (inr (inl full.1)) ]
                    | inr matches ↦ elim matches [ inl memory ↦ inl memory | inr full ↦ stop full.0 (inr (inr full.1)) ]
                  ]
            ]
