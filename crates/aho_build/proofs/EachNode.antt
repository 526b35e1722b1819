-- The sizes' list of nodes has each nonempty node, and has it once.
use Rattle.std.proofs.Common.{◌≡◌, ◌≢◌, ◌↔◌, ◌⊎◌, inl, inr, ℕ, zero, suc, ◌+◌, Bool, true, false, ◌||◌, List, [], ◌∷◌, ◌++◌, length, refl, sym, ap, subst, ◌∙◌, arith}
use Rattle.std.proofs.Math.Bool.{or-false}
use Rattle.std.proofs.lemmas.Bool.{cases_Bool, cases_lt, or_cases, or_left, or_right}
use Rattle.std.proofs.lemmas.List.{append_assoc, append-nil, length_push}
use Rattle.aho_core.specs.Among.{is_node_among}
use Rattle.aho_core.specs.Listing.{IsMember, IsListedBy}
use Rattle.aho_core.specs.Patterns.{Patterns}
use Rattle.aho_core.specs.Trie.{begins, is_kept, is_node, pattern_word}
use Rattle.aho_laws.proofs.Begins.{begins-from, begins-true, begins_length, begins_shorter, begins_trans, begins_whole}
use Rattle.aho_laws.proofs.Inserted.{is_node_among-all}
use Rattle.aho_laws.proofs.Listed.{listed-append, member-left, member-of_append, member-right}
use Rattle.aho_build.proofs.Nodes.{is_node_among-kept, is_node_among-left_out}
use Rattle.aho_build.proofs.NodesInOrder.{nodes_before-kept, nodes_before-left_out, nodes_with-new, nodes_with-none, nodes_with-there}
use Rattle.aho_build.specs.Sizes.{nodes_with, nodes, nodes_before}

-- the list has each nonempty word that passes the test, and no other, each once
record IsEach (passes : List ℕ → Bool) (words : List (List ℕ)) : Type 0 where
  has : (word : List ℕ) → word ≢ [] → passes word ≡ true → IsMember words word
  only : (word : List ℕ) → IsMember words word → (word ≢ []) × (passes word ≡ true)
  once : IsListedBy (λ (x y : List ℕ). x ≢ y) words

-- by a test that answers the same
IsEach-same : (f g : List ℕ → Bool) (xs ys : List (List ℕ)) → ((word : List ℕ) → word ≢ [] → f word ≡ g word) → ys ≡ xs → IsEach f xs → IsEach g ys
IsEach-same f g xs ys same e each = subst (IsEach g) (sym e) (record {
  has = λ word some passes. each.has word some (same word some ∙ passes);
  only = λ word member. let known = each.only word member in (known.0, sym (same word known.0) ∙ known.1);
  once = each.once;
})

module _ (p : Patterns) where
  -- a node of the patterns below this number, or what begins the word
  abbrev with_front : ℕ → List ℕ → List ℕ → Bool
  with_front number more word = is_node_among p number word || begins word more

  -- what begins a word with one more byte begins the word, or is it
  begins-push : (word more : List ℕ) (byte : ℕ) → begins word (more ++ byte ∷ []) ≡ true → (begins word more ≡ true) ⊎ (word ≡ more ++ byte ∷ [])
  begins-push word more byte h =
      let whole = begins-true word (more ++ byte ∷ []) h in
      elim (cases_lt (length more) (length word)) [
        | inl long ↦ inr (begins_whole word (more ++ byte ∷ []) whole (omega (arith, long, length_push more byte)))
        | inr short ↦ (let front = begins_shorter word more (more ++ byte ∷ []) whole (byte ∷ [], refl) short in inl (begins-from word front.0 more front.1))
      ]

  begins-more_front : (word more : List ℕ) (byte : ℕ) → begins word more ≡ true → begins word (more ++ byte ∷ []) ≡ true
  begins-more_front word more byte h =
      let front = begins_trans word more (more ++ byte ∷ []) (begins-true word more h) (byte ∷ [], refl) in
      begins-from word front.0 (more ++ byte ∷ []) front.1

  -- what passes with a word passes with a longer one
  passes-more : (number : ℕ) (word more : List ℕ) (byte : ℕ) → with_front number more word ≡ true → with_front number (more ++ byte ∷ []) word ≡ true
  passes-more number word more byte passes =
      elim (or_cases (is_node_among p number word) (begins word more) passes) [
        | inl node ↦ or_left (is_node_among p number word) (begins word (more ++ byte ∷ [])) node
        | inr front ↦ or_right (is_node_among p number word) (begins word (more ++ byte ∷ [])) (begins-more_front word more byte front)
      ]

  -- and what passes with the longer one is it, or passed before
  passes-less : (number : ℕ) (word more : List ℕ) (byte : ℕ) → with_front number (more ++ byte ∷ []) word ≡ true → (with_front number more word ≡ true) ⊎ (word ≡ more ++ byte ∷ [])
  passes-less number word more byte passes =
      elim (or_cases (is_node_among p number word) (begins word (more ++ byte ∷ [])) passes) [
        | inl node ↦ inl (or_left (is_node_among p number word) (begins word more) node)
        | inr front ↦
            elim (begins-push word more byte front) [
              | inl within ↦ inl (or_right (is_node_among p number word) (begins word more) within)
              | inr same ↦ inr same
            ]
      ]

  -- one byte more
  each-push : (number : ℕ) (more : List ℕ) (byte : ℕ) → IsEach (with_front number more) (nodes_with p number more)
      → IsEach (with_front number (more ++ byte ∷ [])) (nodes_with p number (more ++ byte ∷ []))
  each-push number more byte each =
      elim (cases_Bool (is_node_among p number (more ++ byte ∷ []))) [
        | inl there ↦ subst (IsEach (with_front number (more ++ byte ∷ []))) (sym (nodes_with-there p number more byte there)) (record {
          has = λ word some passes.
              elim (passes-less number word more byte passes) [
                | inl before ↦ each.has word some before
                | inr same ↦ each.has word some (or_left (is_node_among p number word) (begins word more) (ap (is_node_among p number) same ∙ there))
              ];
          only = λ word member. let known = each.only word member in (known.0, passes-more number word more byte known.1);
          once = each.once;
        })
        | inr absent ↦ subst (IsEach (with_front number (more ++ byte ∷ []))) (sym (nodes_with-new p number more byte absent)) (record {
          has = λ word some passes.
              elim (passes-less number word more byte passes) [
                | inl before ↦ member-left (nodes_with p number more) ((more ++ byte ∷ []) ∷ []) word (each.has word some before)
                | inr same ↦ member-right (nodes_with p number more) ((more ++ byte ∷ []) ∷ []) word (inl same)
              ];
          only = λ word member.
              elim (member-of_append (nodes_with p number more) ((more ++ byte ∷ []) ∷ []) word member) [
                | inl old ↦ (let known = each.only word old in (known.0, passes-more number word more byte known.1))
                | inr new ↦
                    elim new [
                      | inl same ↦ (
                        (λ none. omega (arith, ap length (sym same ∙ none), length_push more byte)),
                        or_right (is_node_among p number word) (begins word (more ++ byte ∷ [])) (begins-from word [] (more ++ byte ∷ []) (append-nil word ∙ same)),
                      )
                      | inr none ↦ absurd none
                    ]
              ];
          once = listed-append (λ (x y : List ℕ). x ≢ y) (nodes_with p number more) ((more ++ byte ∷ []) ∷ []) each.once (λ later none. absurd none, tt)
              (λ x y old new. elim new [ inl same ↦ (λ e. unlike x absent (each.only x old).1 (e ∙ same)) | inr none ↦ absurd none ]);
        })
      ]
    where
      -- what passed before is not the longer word, which is no node
      unlike : (x : List ℕ) → is_node_among p number (more ++ byte ∷ []) ≡ false → with_front number more x ≡ true → x ≡ more ++ byte ∷ [] → ⊥
      unlike x absent passes same =
          elim (or_cases (is_node_among p number x) (begins x more) passes) [
            | inl node ↦ (let clash : true ≡ false = sym node ∙ ap (is_node_among p number) same ∙ absent in cc)
            | inr front ↦ omega (arith, begins_length x more (begins-true x more front), ap length same, length_push more byte)
          ]

  -- any bytes more
  each-append : (number : ℕ) (more rest : List ℕ) → IsEach (with_front number more) (nodes_with p number more) → IsEach (with_front number (more ++ rest)) (nodes_with p number (more ++ rest))
  each-append number more [] each = subst (λ (w : List ℕ). IsEach (with_front number w) (nodes_with p number w)) (sym (append-nil more)) each
  each-append number more (byte ∷ rest) each =
      subst (λ (w : List ℕ). IsEach (with_front number w) (nodes_with p number w)) (append_assoc more (byte ∷ []) rest) (each-append number (more ++ byte ∷ []) rest (each-push number more byte each))

  -- with no bytes of one more word: the nodes of the patterns below the number
  front-none : (number : ℕ) (word : List ℕ) → word ≢ [] → is_node_among p number word ≡ with_front number [] word
  front-none number [] some = absurd (some refl)
  front-none number (x ∷ word) some = sym (or-false (is_node_among p number (x ∷ word)))

  -- of no patterns no nonempty word is a node
  none-at_first : (word : List ℕ) → word ≢ [] → is_node_among p 0 word ≡ true → ⊥
  unfolding is_node_among
  none-at_first [] some passes = some refl
  none-at_first (x ∷ word) some passes = cc

  -- one pattern more, and so all
  each-before : (number : ℕ) → IsEach (is_node_among p number) (nodes_before p number)
  each-before zero = record { has = λ word some passes. absurd (none-at_first word some passes); only = λ word member. absurd member; once = tt }
  each-before (suc number) =
      let before : IsEach (with_front number []) (nodes_with p number []) =
      IsEach-same (is_node_among p number) (with_front number []) (nodes_before p number) (nodes_with p number []) (front-none number) (nodes_with-none p number) (each-before number) in
      let next : number + 1 ≡ suc number = omega arith in
      subst (λ (n : ℕ). IsEach (is_node_among p n) (nodes_before p n)) next
      (elim (cases_Bool (is_kept p number)) [
        | inl kept ↦
            IsEach-same (with_front number (pattern_word p number)) (is_node_among p (number + 1)) (nodes_with p number (pattern_word p number)) (nodes_before p (number + 1))
            (λ word some. is_node_among-kept p number word kept) (nodes_before-kept p number kept) (each-append number [] (pattern_word p number) before)
        | inr left ↦
            IsEach-same (is_node_among p number) (is_node_among p (number + 1)) (nodes_before p number) (nodes_before p (number + 1))
            (λ word some. is_node_among-left_out p number word left) (nodes_before-left_out p number left) (each-before number)
      ])

  pub nodes-members : (word : List ℕ) → IsMember (nodes p) word ↔ ((word ≢ []) × (is_node p word ≡ true))
  nodes-members word = (
    (λ member. let known = (each-before (length p.words)).only word member in (known.0, sym (is_node_among-all p word) ∙ known.1)),
    (λ node. (each-before (length p.words)).has word node.0 (is_node_among-all p word ∙ node.1)),
  )

  pub nodes-once : IsListedBy (λ (x y : List ℕ). x ≢ y) (nodes p)
  nodes-once = (each-before (length p.words)).once
