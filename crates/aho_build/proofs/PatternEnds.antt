-- Where a pattern's bytes end, and that a pattern is left out exactly where the walk along it meets a pattern before its end.
use Rattle.std.proofs.Common.{◌≡◌, ◌≢◌, ℕ, ◌+◌, ◌<◌, ◌≤◌, get_or, Bool, true, false, ◌&&◌, nat_lt, List, [], ◌∷◌, ◌++◌, length, take, drop, Option, Some, None, refl, sym, ap, subst, ◌∙◌, inl, inr, arith}
use Rattle.std.proofs.lemmas.Bool.{cases_Bool, cases_eq, ltb-true, lt-ltb}
use Rattle.std.proofs.lemmas.List.{take-append-drop, take-map, length-map, length-take-le, take_all}
use Rattle.std.proofs.Math.Seq.{take-append_seam}
use Rattle.aho_core.specs.declared.search.MatchKind.{MatchKind}
use Rattle.aho_core.specs.declared.search.MatchKind.TheVariants.{Standard, LeftmostFirst, LeftmostLongest}
use Rattle.aho_core.specs.Among.{is_node_among, own_among}
use Rattle.aho_core.specs.Bytes.{folded, folded_word}
use Rattle.aho_core.specs.Patterns.{Patterns}
use Rattle.aho_core.specs.Trie.{is_kept, pattern_word}
use Rattle.aho_laws.proofs.Inserted.{left_out-walk, walk-left_out}
use Rattle.aho_build.specs.declared.settings.Settings.{Settings}
use Rattle.aho_build.specs.TrieGrowth.{leaves_out, IsNumbered, EndsAt, HasChild, HasWalked}
use Rattle.aho_build.specs.Trie.{HoldsFirst, HoldsWith, IsTrieWith, names_of}
use Rattle.aho_build.specs.StateNames.{name_at}
use Rattle.aho_table.specs.Table.{State, matches_in}
use Rattle.aho_build.specs.Sizes.{nodes_with}
use Rattle.aho_build.proofs.CountedTrie.{HoldsWith-start, HoldsWith-byte, HoldsWith-back}
use Rattle.aho_build.proofs.NamesOfTries.{name_at-below}
use Rattle.aho_build.proofs.Nodes.{own_among-absent}

-- the pattern's word is the folded one of its bytes
pattern_word-numbered : (p : Patterns) (number : ℕ) (settings : Settings) (word : List ℕ) → IsNumbered p number settings word → pattern_word p number ≡ folded_word p word
unfolding pattern_word
pattern_word-numbered p number settings word numbered = ap (folded_word p) numbered.pattern_is

first_kind : (kind : MatchKind) → leaves_out kind ≡ true → kind ≡ LeftmostFirst
first_kind Standard e = cc
first_kind LeftmostFirst e = refl
first_kind LeftmostLongest e = cc

pub kind_first : (kind : MatchKind) → kind ≡ LeftmostFirst → leaves_out kind ≡ true
kind_first Standard e = cc
kind_first LeftmostFirst e = refl
kind_first LeftmostLongest e = cc

both_hold : (b c : Bool) → (b && c) ≡ true → (b ≡ true) × (c ≡ true)
both_hold true c e = (refl, e)
both_hold false c e = cc

empty_from : (xs : List ℕ) → (0 < length xs → ⊥) → xs ≡ []
empty_from [] none = refl
empty_from (x ∷ xs) none = absurd (none (omega arith))

module _ (p : Patterns) (number : ℕ) (settings : Settings) (word : List ℕ) (numbered : IsNumbered p number settings word) where
  -- the first bytes of the pattern, as the walk meets them
  abbrev front_of : ℕ → List ℕ
  front_of k = folded_word p (take k word)

  pub front_of-word : (k : ℕ) → front_of k ++ drop k (folded_word p word) ≡ pattern_word p number
  front_of-word k =
      ap (λ (l : List ℕ). l ++ drop k (folded_word p word)) (sym (take-map (folded p) k word))
      ∙ take-append-drop k (folded_word p word) ∙ sym (pattern_word-numbered p number settings word numbered)

  -- no pattern ends at a state that is passed
  pub passed_none : (sid k : ℕ) (names : List (Option (List ℕ))) (states : List State) → (leaves_out settings.kind && nat_lt 0 (length (matches_in states sid))) ≡ false → leaves_out settings.kind ≡ true
      → IsTrieWith p number (front_of k) names states → name_at names sid ≡ Some (front_of k) → own_among p number (front_of k) ≡ []
  passed_none sid k names states none first with_more at =
      empty_from (own_among p number (front_of k))
      (λ long.
      let some : 0 < length (matches_in states sid) = omega (arith, ap length (with_more.lists sid (front_of k) at)) in
      let clash : true ≡ false =
      sym (lt-ltb 0 (length (matches_in states sid)) some) ∙ ap (λ (b : Bool). b && nat_lt 0 (length (matches_in states sid))) (sym first) ∙ none in
      cc)

  abbrev names_at : ℕ → List (Option (List ℕ))
  names_at k = names_of (nodes_with p number (front_of k))

  -- a pattern that is left out meets a pattern before its end
  pub left_out-front : is_kept p number ≡ false → (k : ℕ) × (k < length word) × (own_among p number (front_of k) ≢ [])
  left_out-front left =
      let whole = sym (pattern_word-numbered p number settings word numbered) in
      let walk = left_out-walk p number left in
      let u = walk.1.0 in
      let is_front : u ≡ front_of (length u) =
      sym (take-append_seam u walk.1.1) ∙ ap (take (length u)) (walk.1.2 ∙ sym whole) ∙ take-map (folded p) (length u) word in
      (length u, omega (arith, walk.1.3, ap length whole, length-map word (folded p)), λ none. walk.1.4 (ap (own_among p number) is_front ∙ none))

  EndsAt-none : (sid k : ℕ) (states : List State) → k < length word → (leaves_out settings.kind && nat_lt 0 (length (matches_in states sid))) ≡ true
      → HoldsWith p number (front_of k) states → name_at (names_at k) sid ≡ Some (front_of k) → EndsAt p number states None
  EndsAt-none sid k states inside seen holds at =
      let with_more = holds.trie in
      let both = both_hold (leaves_out settings.kind) (nat_lt 0 (length (matches_in states sid))) seen in
      let own : List ℕ = own_among p number (front_of k) in
      let some : 0 < length own = omega (arith, ltb-true 0 (length (matches_in states sid)) both.1, ap length (with_more.lists sid (front_of k) at)) in
      let node : is_node_among p number (front_of k) ≡ true =
      elim (cases_Bool (is_node_among p number (front_of k))) [
        | inl there ↦ there
        | inr absent ↦ absurd (omega (arith, some, ap length (own_among-absent p number (front_of k) absent)))
      ] in
      let short : length (front_of k) < length (pattern_word p number) =
      omega (arith, inside, length-map (take k word) (folded p), length-take-le k word (omega (arith, inside)), ap length (pattern_word-numbered p number settings word numbered), length-map word (folded p)) in (
        walk-left_out p number (front_of k) (drop k (folded_word p word)) (numbered.kind_is ∙ first_kind settings.kind both.0) (front_of-word k) short (λ none. omega (arith, some, ap length none)),
        HoldsWith-back p number (front_of k) states node holds,
      )

  EndsAt-some : (sid : ℕ) (states : List State) → ((k : ℕ) → k < length word → leaves_out settings.kind ≡ true → own_among p number (front_of k) ≡ [])
      → HoldsWith p number (folded_word p word) states → name_at (names_of (nodes_with p number (folded_word p word))) sid ≡ Some (folded_word p word) → EndsAt p number states (Some sid)
  EndsAt-some sid states passed with_all at =
      let whole = sym (pattern_word-numbered p number settings word numbered) in
      let kept : is_kept p number ≡ true =
      elim (cases_Bool (is_kept p number)) [
        | inl there ↦ there
        | inr left ↦
            (let walk = left_out-front left in
            let short : walk.0 < length word = walk.1 in
            absurd (walk.2 (passed walk.0 short (kind_first settings.kind (sym numbered.kind_is ∙ (left_out-walk p number left).0)))))
      ] in
      subst (λ (w : List ℕ). (is_kept p number ≡ true) × HoldsWith p number w states × (name_at (names_of (nodes_with p number w)) sid ≡ Some w)) whole (kept, with_all, at)

  -- the walk begins at the root
  pub HasWalked-none : (sid : ℕ) (states : List State) → sid ≡ 2 → HoldsFirst p number states → HasWalked p number word 0 sid states
  HasWalked-none sid states root holds =
      let begun = HoldsWith-start p number states holds in
      record {
        passed = λ k below first. absurd (omega arith);
        with_front = begun;
        held = ap (name_at (names_at 0)) root ∙ begun.trie.trie.root;
      }

  pub HasWalked-below : (count sid : ℕ) (states : List State) → HasWalked p number word count sid states → sid < length states
  HasWalked-below count sid states walked = omega (arith, name_at-below (names_at count) sid (front_of count) walked.held, walked.with_front.trie.trie.sized)

  -- one byte more
  pub HasWalked-more : (count sid next : ℕ) (old new : List State) → count < length word → get_or word count 0 < 256
      → (leaves_out settings.kind && nat_lt 0 (length (matches_in old sid))) ≡ false → HasChild settings.ignore_case sid (get_or word count 0) (count + 1) old new next
      → HasWalked p number word count sid old → HasWalked p number word (count + 1) next new
  HasWalked-more count sid next old new below small none child walked =
      let has : HasChild p.ignore_case sid (get_or word count 0) (count + 1) old new next =
      subst (λ (b : Bool). HasChild b sid (get_or word count 0) (count + 1) old new next) (sym numbered.case_is) child in
      let grown = HoldsWith-byte p number word count sid next old new below small walked.with_front walked.held has in
      record {
        passed = λ k less first.
            elim (cases_eq k count) [
              | inl here ↦
                  ap (λ (n : ℕ). own_among p number (front_of n)) here
                  ∙ passed_none sid count (names_at count) old none (ap leaves_out (sym numbered.kind_is) ∙ first) walked.with_front.trie walked.held
              | inr earlier ↦ walked.passed k (omega arith) first
            ];
        with_front = grown.0;
        held = grown.1;
      }

  -- the walk ends before the word, or with it
  pub HasWalked-met : (count sid : ℕ) (states : List State) → count < length word → (leaves_out settings.kind && nat_lt 0 (length (matches_in states sid))) ≡ true
      → HasWalked p number word count sid states → EndsAt p number states None
  HasWalked-met count sid states inside seen walked = EndsAt-none sid count states inside seen walked.with_front walked.held

  pub HasWalked-all : (count sid : ℕ) (states : List State) → length word ≤ count → HasWalked p number word count sid states → EndsAt p number states (Some sid)
  HasWalked-all count sid states past walked =
      let whole : front_of count ≡ folded_word p word = ap (folded_word p) (take_all count word past) in
      EndsAt-some sid states
      (λ k less first. walked.passed k (omega (arith, less, past)) (ap leaves_out numbered.kind_is ∙ first))
      (subst (λ (w : List ℕ). HoldsWith p number w states) whole walked.with_front)
      (subst (λ (w : List ℕ). name_at (names_of (nodes_with p number w)) sid ≡ Some w) whole walked.held)
