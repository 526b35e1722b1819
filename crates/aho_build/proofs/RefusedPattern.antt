-- A pattern of which a byte was refused is kept, and with it a table would be too large.
use Rattle.std.proofs.Common.{◌≡◌, ℕ, ◌+◌, ◌<◌, ◌≤◌, Bool, true, false, ◌&&◌, nat_lt, List, [], ◌∷◌, ◌++◌, length, get_or, take, drop, Option, Some, None, sym, ap, ◌∙◌, inl, inr, arith, append_assoc}
use Rattle.std.proofs.lemmas.Bool.{cases_Bool, cases_eq, cases_lt, or_parts, MatchBool-at_true}
use Rattle.std.proofs.lemmas.List.{take-append-drop, take-map, take-take, length_push, length-append}
use Rattle.std.proofs.lemmas.List.Sums.{sum_by-append}
use Rattle.std.specs.Prelude.{sum_by}
use Rattle.aho_core.specs.declared.error.BuildError.{BuildError}
use Rattle.aho_core.specs.Among.{is_node_among, own_among}
use Rattle.aho_core.specs.Bytes.{folded, folded_word}
use Rattle.aho_core.specs.Patterns.{Patterns}
use Rattle.aho_core.specs.Trie.{begins, is_kept, pattern_word}
use Rattle.aho_laws.proofs.Begins.{begins-from}
use Rattle.aho_laws.proofs.Inserted.{left_out-walk}
use Rattle.aho_build.specs.declared.settings.Settings.{Settings}
use Rattle.aho_build.specs.TrieGrowth.{leaves_out, IsNumbered, HasWalked, EndsAt, IsChildRefusal, IsPatternRefusal, missing_both}
use Rattle.aho_build.specs.StateNames.{name_at}
use Rattle.aho_build.specs.Trie.{longer, missing_at, names_of}
use Rattle.aho_table.specs.Refusal.{refusal_at}
use Rattle.aho_build.specs.Sizes.{kept_before, nodes_before, transitions_for, new_fronts, nodes_with}
use Rattle.aho_table.specs.Table.{State, next_in, matches_in, transitions_count, matches_count}
use Rattle.aho_build.proofs.CountedTrie.{missing-entries}
use Rattle.aho_build.proofs.PatternEnds.{front_of-word, left_out-front, passed_none, kind_first}
use Rattle.aho_build.proofs.BytesAdded.{words_with, folded_word-take-more}
use Rattle.aho_build.proofs.Nodes.{is_node_among-front, own_among-absent}
use Rattle.aho_build.proofs.NodesInOrder.{new_fronts-append, nodes_with-new, nodes_before-kept, kept_before-kept}
use Rattle.aho_table.proofs.Refusals.{IsRefusalOf-more, IsRefusalOf-at}

-- a shorter front begins a longer one
begins-take : (j k : ℕ) (word : List ℕ) → j ≤ k → begins (take j word) (take k word) ≡ true
begins-take j k word le =
    begins-from (take j word) (drop j (take k word)) (take k word)
    (ap (λ (l : List ℕ). l ++ drop j (take k word)) (sym (take-take j k word le)) ∙ take-append-drop j (take k word))

module _ (p : Patterns) (number : ℕ) (settings : Settings) (word : List ℕ) (numbered : IsNumbered p number settings word)
    (count sid : ℕ) (states : List State) (inside : count < length word) (small : get_or word count 0 < 256)
    (unmatched : (leaves_out settings.kind && nat_lt 0 (length (matches_in states sid))) ≡ false) (walked : HasWalked p number word count sid states) where
  abbrev byte : ℕ
  byte = get_or word count 0

  abbrev more : List ℕ
  more = folded_word p (take count word)

  names : List (Option (List ℕ))
  names = names_of (nodes_with p number more)

  next_front : folded_word p (take (count + 1) word) ≡ longer p more byte
  next_front = folded_word-take-more p word count inside

  -- the byte led to no node
  absent : next_in states sid byte ≡ 1 → words_with p number more (longer p more byte) ≡ false
  absent one =
      let holds = walked.with_front in
      elim (cases_Bool (words_with p number more (longer p more byte))) [
        | inr none ↦ none
        | inl there ↦
            (let leads : name_at (names_of (nodes_with p number more)) (next_in states sid byte) ≡ Some (longer p more byte) =
            MatchBool-at_true (name_at (names_of (nodes_with p number more)) (next_in states sid byte) ≡ Some (longer p more byte)) (next_in states sid byte ≡ missing_at 1 more) there
            (holds.trie.trie.transitions sid more byte walked.held small) in
            let clash : Some (longer p more byte) ≡ None = sym leads ∙ ap (name_at (names_of (nodes_with p number more))) one ∙ holds.trie.trie.fail in
            cc)
      ]

  no_node : next_in states sid byte ≡ 1 → is_node_among p number (longer p more byte) ≡ false
  no_node one = (or_parts (is_node_among p number (longer p more byte)) (begins (longer p more byte) more) (absent one)).0

  -- a pattern is met before the byte, or behind a node
  kept : next_in states sid byte ≡ 1 → is_kept p number ≡ true
  kept one =
      elim (cases_Bool (is_kept p number)) [
        | inl there ↦ there
        | inr left ↦
            (let met = left_out-front p number settings word numbered left in
            let k = met.0 in
            let first : leaves_out p.kind ≡ true = kind_first p.kind (left_out-walk p number left).0 in
            elim (cases_lt k count) [
              | inl earlier ↦ absurd (met.2 (walked.passed k earlier first))
              | inr late ↦
                  elim (cases_eq k count) [
                    | inl here ↦
                        absurd
                        (met.2
                        (ap (λ (n : ℕ). own_among p number (folded_word p (take n word))) here
                        ∙ passed_none p number settings word numbered sid count (names_of (nodes_with p number more)) states unmatched (ap leaves_out (sym numbered.kind_is) ∙ first) walked.with_front.trie walked.held))
                    | inr later ↦
                        elim (cases_Bool (is_node_among p number (folded_word p (take k word)))) [
                          | inr none ↦ absurd (met.2 (own_among-absent p number (folded_word p (take k word)) none))
                          | inl node ↦
                              (let front : begins (longer p more byte) (folded_word p (take k word)) ≡ true =
                              ap (λ (w : List ℕ). begins w (folded_word p (take k word))) (sym next_front ∙ sym (take-map (folded p) (count + 1) word))
                              ∙ ap (begins (take (count + 1) (folded_word p word))) (sym (take-map (folded p) k word))
                              ∙ begins-take (count + 1) k (folded_word p word) (omega (arith, late, later)) in
                              let clash : true ≡ false = sym (is_node_among-front p number (longer p more byte) (folded_word p (take k word)) node front) ∙ no_node one in
                              cc)
                        ]
                  ]
            ])
      ]

  -- the nodes with the whole pattern are those so far, that of the byte, and more
  all_nodes : next_in states sid byte ≡ 1 → (rest : List (List ℕ)) × (nodes_before p (number + 1) ≡ (nodes_with p number more ++ longer p more byte ∷ []) ++ rest)
  all_nodes one =
      let further = new_fronts-append p number (longer p more byte) (drop (count + 1) (folded_word p word)) in
      let whole : longer p more byte ++ drop (count + 1) (folded_word p word) ≡ pattern_word p number =
      ap (λ (w : List ℕ). w ++ drop (count + 1) (folded_word p word)) (sym next_front) ∙ front_of-word p number settings word numbered (count + 1) in (
        further.0,
        nodes_before-kept p number (kept one)
            ∙ ap (λ (w : List ℕ). nodes_before p number ++ new_fronts p number w) (sym whole)
            ∙ ap (λ (l : List (List ℕ)). nodes_before p number ++ l) further.1
            ∙ sym (append_assoc (nodes_before p number) (new_fronts p number (longer p more byte)) further.0)
            ∙ ap (λ (l : List (List ℕ)). l ++ further.0) (nodes_with-new p number more (folded p byte) (no_node one)),
      )

  length_more : (words rest all : List (List ℕ)) (one : List ℕ) → all ≡ (words ++ one ∷ []) ++ rest → length words + 1 ≤ length all
  length_more words rest all one e = omega (arith, ap length e, length-append (words ++ one ∷ []) rest, length_push words one)

  sum_more : (f : List ℕ → ℕ) (words rest all : List (List ℕ)) (one : List ℕ) → all ≡ (words ++ one ∷ []) ++ rest → sum_by f words + f one ≤ sum_by f all
  sum_more f words rest all one e = omega (arith, ap (sum_by f) e, sum_by-append f (words ++ one ∷ []) rest, sum_by-append f words (one ∷ []))

  pub IsPatternRefusal-child : (limit : ℕ) (error : BuildError) → IsChildRefusal settings.ignore_case limit sid byte states error → IsPatternRefusal limit p number error
  IsPatternRefusal-child limit error refusal =
      let holds = walked.with_front in
      let nodes = all_nodes refusal.0 in
      let entries : missing_both settings.ignore_case states sid byte ≡ transitions_for p (longer p more byte) =
      ap (λ (b : Bool). missing_both b states sid byte) (sym numbered.case_is)
      ∙ missing-entries p (words_with p number more) (names_of (nodes_with p number more)) states holds.trie.trie holds.listed sid byte small more walked.held (absent refusal.0) in (
        kept refusal.0,
        elim refusal.1 [
          | inl full ↦
              inl (IsRefusalOf-more limit (length states + 1) (4 + length (nodes_before p (number + 1))) error
              (omega (arith, holds.counted.state_count, length_more (nodes_with p number more) nodes.0 (nodes_before p (number + 1)) (longer p more byte) nodes.1)) full)
          | inr full ↦
              inr (inl (IsRefusalOf-more limit (transitions_count states + missing_both settings.ignore_case states sid byte) (769 + sum_by (transitions_for p) (nodes_before p (number + 1))) error
              (enough (transitions_for p) nodes.0 (nodes_before p (number + 1)) nodes.1 (missing_both settings.ignore_case states sid byte) entries holds.counted.transitions) full))
        ],
      )
    where
      enough : (f : List ℕ → ℕ) (rest all : List (List ℕ)) → all ≡ (nodes_with p number more ++ longer p more byte ∷ []) ++ rest → (n : ℕ) → n ≡ f (longer p more byte)
          → transitions_count states ≡ 769 + sum_by f (nodes_with p number more) → transitions_count states + n ≤ 769 + sum_by f all
      enough f rest all e n is was = omega (arith, is, was, sum_more f (nodes_with p number more) rest all (longer p more byte) e)

-- the pattern's number was refused, after all its bytes
pub IsPatternRefusal-end : (p : Patterns) (number limit sid : ℕ) (states : List State) (error : BuildError) → EndsAt p number states (Some sid) → error ≡ refusal_at limit (matches_count states) → IsPatternRefusal limit p number error
IsPatternRefusal-end p number limit sid states error ends refused = (
  ends.0,
  inr (inr (IsRefusalOf-at limit (matches_count states) (1 + length (kept_before p (number + 1))) error
      (omega (arith, ends.1.counted.matches, ap length (kept_before-kept p number ends.0), length_push (kept_before p number) number)) refused)),
)
