-- The borders of the kept patterns, one pattern after another.
use Rattle.std.proofs.Common.{◌≡◌, ℕ, suc, ◌+◌, ◌<◌, ◌≤◌, Bool, false, ◌&&◌, ◌||◌, List, [], ◌∷◌, ◌++◌, length, sym, ap, ◌∙◌, arith}
use Rattle.std.specs.List.{list_any, range_with_len}
use Rattle.std.proofs.Math.Bool.{or-false}
use Rattle.std.proofs.lemmas.List.{get_or_append_left, get_or-replicate}
use Rattle.std.proofs.lemmas.List.Folds.{list_any-append}
use denote.Ref.{Bor}
use Rattle.aho_core.specs.Patterns.{Patterns, pattern_at}
use Rattle.aho_core.specs.Trie.{is_kept}
use Rattle.aho_laws.proofs.Ranges.{range_with_len-more}
use Rattle.aho_table.specs.Alphabet.{is_border, no_borders}
use Rattle.aho_table.specs.Table.{State}
use Rattle.aho_build.specs.Dense.{AddsBorders, HasBorders, is_parted_by, is_parted_among}
use Rattle.aho_build.specs.Items.{patterns_of}
use Rattle.aho_build.specs.Trie.{HoldsTrie}
use Rattle.aho_build.specs.declared.settings.Settings.{Settings}
use Rattle.aho_build.proofs.MorePatterns.{list_any-same, with_more, is_kept-more, words_before, words_next, patterns_next, HoldsFirst-next, IsNumbered-next, count-next}

-- no pattern makes no border
pub HasBorders-none : (settings : Settings) (borders : List Bool) → borders ≡ no_borders → HasBorders (patterns_of settings []) borders
unfolding no_borders
HasBorders-none settings borders is at below = ap (λ (bs : List Bool). is_border bs at) is ∙ get_or-replicate 255 at false false below

-- whether the pattern of this number makes one here
abbrev parts : Patterns → ℕ → ℕ → Bool
parts p at k = is_kept p k && is_parted_by p.ignore_case (pattern_at p k) at

parted-more : (p : Patterns) (number at : ℕ) → is_parted_among p (number + 1) at ≡ (is_parted_among p number at || parts p at number)
parted-more p number at =
    let count : number + 1 ≡ suc number = omega arith in
    let last : 0 + number ≡ number = omega arith in
    ap (λ (n : ℕ). list_any (parts p at) (range_with_len 0 n)) count
    ∙ ap (list_any (parts p at)) (range_with_len-more 0 number ∙ ap (λ (n : ℕ). range_with_len 0 number ++ n ∷ []) last)
    ∙ list_any-append (parts p at) (range_with_len 0 number) (number ∷ [])
    ∙ ap (λ (b : Bool). is_parted_among p number at || b) (or-false (parts p at number))

-- patterns behind do not change it
parted-appended : (p : Patterns) (more : List (List ℕ)) (number at : ℕ) → number ≤ length p.words → is_parted_among (with_more p more) number at ≡ is_parted_among p number at
parted-appended p more number at within =
    list_any-same (parts (with_more p more) at) (parts p at) 0 number
    (λ k less.
    let below : k < length p.words = omega (arith, less, within) in
    ap (λ (b : Bool). b && is_parted_by p.ignore_case (pattern_at (with_more p more) k) at) (is_kept-more p more k below)
    ∙ ap (λ (w : List ℕ). is_kept p k && is_parted_by p.ignore_case w at) (get_or_append_left p.words more [] k below))

module _ (settings : Settings) (items : List (Bor (List ℕ))) (item : Bor (List ℕ)) where
  parted-before : (at : ℕ) → is_parted_among (patterns_next settings items item) (length (words_before settings items item)) at ≡ is_parted_among (patterns_of settings items) (length (words_before settings items item)) at
  parted-before at =
      let made = λ (words : List (List ℕ)). is_parted_among (record { words = words; kind = settings.kind; ignore_case = settings.ignore_case }) (length (words_before settings items item)) at in
      ap made (words_next settings items item) ∙ parted-appended (patterns_of settings items) (item.now ∷ []) (length (words_before settings items item)) at (omega arith)

  -- one item more
  pub HasBorders-next : (number : ℕ) (states : List State) (old new : List Bool) → number ≡ length (words_before settings items item) → HoldsTrie (patterns_of settings items) states
      → AddsBorders settings item.now number states old new → HasBorders (patterns_of settings items) old → HasBorders (patterns_next settings items item) new
  HasBorders-next number states old new e holds adds has at below =
      let next = patterns_next settings items item in
      let numbered = IsNumbered-next settings items item number e in
      adds next numbered (HoldsFirst-next settings items item number states e holds) at below
      ∙ ap (λ (b : Bool). b || (is_kept next number && is_parted_by next.ignore_case item.now at)) (has at below ∙ sym (parted-before at))
      ∙ ap (λ (n : ℕ). is_parted_among next n at || (is_kept next number && is_parted_by next.ignore_case item.now at)) (sym e)
      ∙ ap (λ (w : List ℕ). is_parted_among next number at || (is_kept next number && is_parted_by next.ignore_case w at)) (sym numbered.pattern_is)
      ∙ sym (parted-more next number at)
      ∙ ap (λ (n : ℕ). is_parted_among next n at) (count-next settings items item number e)
