-- How counts grow by the ranges that are replaced, file after file, what they are summed to, and that no sum is greater than what was read.
use Rattle.acredact.proofs.Common.{AreTotals, Bool, Consumes, Consumes-nil, CountsOfNames, CountsThese, Errors, Given, HaveGrown, Keeps, List, None, NumbersRead, Occurrence, OfName, Option, ReadsSize, ReadsVolume, Rule, Secret, SinkGhosts, Some, TellsCounts, Volume, Work, [], ap, append-nil, arith, common_steps, drop, false, files_with, get_or, get_or-replicate, given_count, if◌then◌else◌, is_some, length, length-append, length-map, min, nat_eq, nat_lt, no_volume, refl, replicate, runs_named, secret_of, secrets_of, slice_index, subst, suc, sum_for, sums_of, sym, task_of, true, zero, zeros, ℕ, ◌++◌, ◌+◌, ◌-◌, ◌<◌, ◌^◌, ◌∙◌, ◌∷◌, ◌≡◌, ◌≤◌}
use Rattle.std.proofs.lemmas.List.{length-replicate, ext_get_or}
use Rattle.std.proofs.Common.{drop-cons, add-one}
use Rattle.std.specs.Prelude.{not}
use Rattle.std.specs.List.{filter, sum}
use Rattle.std.proofs.lemmas.List.FromFn.{get_or-map-range_with_len, length-map-range_with_len}
use Rattle.std.proofs.lemmas.List.Sums.{count_by-le-length, length-filter, sum_by-cons}
use Rattle.acredact.specs.Sums.{counts_for, share}
use Rattle.acredact.specs.Bounds.{NumbersOfAll, GrowAtMost}
use Rattle.acredact.specs.Calls.{AreBounded, TellsTotals}
-- How counts grow by the ranges that are replaced, file after file, and how great they and their sums are.
use Rattle.acredact.specs.Totals.{CountsOfName, NameHas}
use Rattle.aho_cover.specs.Counting.{grown_count}
use Rattle.acredact.specs.Metering.{IsMetered, known_size}
use Rattle.acredact.specs.Volumes.{AddsName}
use Rattle.acredact.proofs.OneFile.{name_unread}
use Rattle.std.proofs.lemmas.List.Filters.{length-filter_both}

-- the ranges of one file alone
pub one_counts : (work : Work) (name : List ℕ) (left left' : Option (List ℕ)) (counts counts' : List ℕ) → CountsOfNames left left' counts counts' work (name ∷ []) → CountsOfName left left' counts counts' work name
one_counts work name left left' counts counts' (ranges, (first, rest, are, between, has, (none, same)), counted) = (
  first,
  subst (λ (l : Option (List ℕ)). NameHas (task_of work) name first left l) (sym same) has,
  subst (λ (l : List Occurrence). CountsThese l counts counts') (are ∙ ap (λ (l : List Occurrence). first ++ l) none ∙ append-nil first) counted,
)

-- counts that began at zero are the totals
pub totals_of : (size : ℕ) (ranges : List Occurrence) (zeros counts : List ℕ) → zeros ≡ replicate size 0 → CountsThese ranges zeros counts → AreTotals size ranges counts
totals_of size ranges zeros counts are grown =
    let many : length zeros ≡ size = ap length are ∙ length-replicate size 0 in
    record {
      one_each = grown.as_many ∙ many;
      each = λ number within.
          let begun : slice_index zeros number ≡ 0 = ap (λ (l : List ℕ). slice_index l number) are ∙ get_or-replicate size number 0 0 within in
          omega (arith, grown.grown number (subst (λ (n : ℕ). number < n) (sym many) within), begun);
    }

-- and are told
pub totals_told : {E : Type 0} (K : SinkGhosts E) (given : List Given) (rules : List Rule) (ranges : List Occurrence) (counts : List ℕ) (volume : Volume) (old new : Errors E) → CountsThese ranges (zeros true rules) counts → TellsCounts K given rules counts volume old new
    → TellsTotals K given (secrets_of rules) ranges volume old new
totals_told K given rules ranges counts volume old new grown told = record {
  counts = counts;
  totals = totals_of (length (secrets_of rules)) ranges (zeros true rules) counts (ap (λ (n : ℕ). replicate n 0) (sym (length-map rules secret_of))) grown;
  told = told.told;
  whole = told.whole;
}

pub sum_cons : (x : ℕ) (xs : List ℕ) → sum (x ∷ xs) ≡ x + sum xs
sum_cons x xs = sum_by-cons (λ y. y) x xs

sum_least : (number place : ℕ) (secrets : List Secret) (counts : List ℕ) → sum_for number place secrets counts ≤ sum counts
sum_least number place (secret ∷ secrets) (count ∷ counts) =
    grind (arith, common_steps, sum_cons count counts, sum_least number (place + 1) secrets counts)
sum_least number place secrets counts = omega arith

pub each_least : (secrets : List Secret) (counts : List ℕ) (number : ℕ) → number < length (sums_of secrets counts) → slice_index (sums_of secrets counts) number ≤ sum counts
each_least secrets counts number within =
    let there : number < given_count secrets = omega (arith, within, length-map-range_with_len (λ number. min (sum_for number 0 secrets counts) (2 ^ 64 - 1)) 0 (given_count secrets)) in
    omega (arith, get_or-map-range_with_len (λ number. min (sum_for number 0 secrets counts) (2 ^ 64 - 1)) 0 (given_count secrets) number number 0 there (omega arith), sum_least number 0 secrets counts)

-- the runs of patterns from a number on
abbrev runs_from : ℕ → List Occurrence → ℕ
runs_from place runs = length (filter (λ (run : Occurrence). not (nat_lt run.pattern place)) runs)

-- one run is of a number, or of one behind it, or before it
runs_split : (place : ℕ) (runs : List Occurrence) → runs_named place runs + runs_from (place + 1) runs ≤ runs_from place runs
runs_split place [] = omega arith
runs_split place (run ∷ runs) = grind (arith, common_steps, runs_split place runs)

-- all counts together grow by no more than the runs from the number of the first on
sums_from : (place : ℕ) (runs : List Occurrence) (counts counts' : List ℕ) → length counts' ≡ length counts
    → ((number : ℕ) → number < length counts → slice_index counts' number ≤ slice_index counts number + runs_named (place + number) runs) → sum counts' ≤ sum counts + runs_from place runs
sums_from place runs [] [] same each = omega arith
sums_from place runs (count ∷ counts) (count' ∷ counts') same each =
    let rest = sums_from (place + 1) runs counts counts' (omega (arith, same)) (λ number within. grind (arith, common_steps, each (suc number) (omega (arith, within)))) in
    grind (arith, common_steps, sum_cons count counts, sum_cons count' counts', each 0 (omega arith), rest, runs_split place runs)
sums_from place runs counts counts' same each = absurd (omega (arith, same))

pub sums_few : (runs : List Occurrence) (counts counts' : List ℕ) → CountsThese runs counts counts' → sum counts' ≤ sum counts + length runs
sums_few runs counts counts' counted =
    let all = sums_from 0 runs counts counts' counted.as_many (λ number within. grind (arith, common_steps, counted.grown number within)) in
    omega (arith, all, length-filter (λ (run : Occurrence). not (nat_lt run.pattern 0)) runs, count_by-le-length (λ (run : Occurrence). not (nat_lt run.pattern 0)) runs)

sum_zeros : (size : ℕ) → sum (replicate size 0) ≡ 0
sum_zeros zero = refl
sum_zeros (suc size) = omega (arith, sum_cons 0 (replicate size 0), sum_zeros size)

pub bounded_from : (holds : List ℕ → Option (List ℕ)) (names : List (List ℕ)) (counted : Bool) (rules : List Rule) (counts : List ℕ) (volume : Volume) (left left' : Option (List ℕ))
    → NumbersOfAll holds names (zeros counted rules) counts no_volume volume left left' → AreBounded holds names (sums_of (secrets_of rules) counts) volume left left'
bounded_from holds names counted rules counts volume left left' numbers = record {
  size = numbers.size;
  read = numbers.read;
  each = λ number within. omega (arith, each_least (secrets_of rules) counts number within, numbers.counted.together, sum_zeros (if counted then length rules else 0));
  bytes = omega (arith, numbers.bytes);
  files = omega (arith, numbers.files);
}

-- what was added, and then more
pub grown_then : (few more both : ℕ → ℕ) (one two three : List ℕ) → ((number : ℕ) → both number ≡ few number + more number) → HaveGrown few one two → HaveGrown more two three → HaveGrown both one three
grown_then few more both one two three are first second = record {
  as_many = second.as_many ∙ first.as_many;
  each = λ number within. omega (arith, are number, first.each number within, second.each number (omega (arith, first.as_many, within)));
}

-- nothing was
pub grown_nothing : (more : ℕ → ℕ) (sums : List ℕ) → ((number : ℕ) → more number ≡ 0) → HaveGrown more sums sums
grown_nothing more sums none = record { as_many = refl; each = λ number within. omega (arith, none number) }

-- where rules or counts have come to their end, nothing is
pub sum_none : (number place : ℕ) (rules : List Rule) (counts : List ℕ) → min (length rules) (length counts) ≡ 0 → sum_for number place (secrets_of rules) counts ≡ 0
sum_none number place [] counts none = refl
sum_none number place (rule ∷ rules) [] none = refl
sum_none number place (rule ∷ rules) (count ∷ counts) none = absurd (omega (arith, none))

-- the sum of the first that is left, and of the others
pub sum_next : (number place : ℕ) (rules : List Rule) (counts : List ℕ) (other : Rule) → place < length rules → place < length counts
    → sum_for number place (secrets_of (drop place rules)) (drop place counts)
    ≡ share (counts_for place (secret_of (get_or rules place other))) number (get_or counts place 0) + sum_for number (place + 1) (secrets_of (drop (place + 1) rules)) (drop (place + 1) counts)
sum_next number place rules counts other some more = rw (drop-cons rules place other some, drop-cons counts place 0 more, add-one) refl

-- sums that began at zero
pub sums_are : (secrets : List Secret) (counts zeros sums : List ℕ) → zeros ≡ replicate (given_count secrets) 0 → HaveGrown (λ number. sum_for number 0 secrets counts) zeros sums → sums ≡ sums_of secrets counts
sums_are secrets counts zeros sums none grown =
    let many : length zeros ≡ given_count secrets = ap length none ∙ length-replicate (given_count secrets) 0 in
    ext_get_or 0 sums (sums_of secrets counts) (grown.as_many ∙ many ∙ sym (length-map-range_with_len (λ number. min (sum_for number 0 secrets counts) (2 ^ 64 - 1)) 0 (given_count secrets)))
    (λ i within.
    let there : i < given_count secrets = omega (arith, within, grown.as_many, many) in
    let zero : slice_index zeros i ≡ 0 = ap (λ (l : List ℕ). slice_index l i) none ∙ get_or-replicate (given_count secrets) i 0 0 there in
    let is : get_or sums i 0 ≡ min (sum_for i 0 secrets counts) (2 ^ 64 - 1) = omega (arith, grown.each i (omega (arith, within, grown.as_many)), zero) in
    is ∙ sym (get_or-map-range_with_len (λ number. min (sum_for number 0 secrets counts) (2 ^ 64 - 1)) 0 (given_count secrets) i i 0 there (omega arith)))

-- runs of one pattern are no more than all
named_few : (number : ℕ) (runs : List Occurrence) → runs_named number runs ≤ length runs
named_few number runs = omega (arith, length-filter_both (λ (run : Occurrence). nat_eq run.pattern number) (λ (run : Occurrence). not (nat_eq run.pattern number)) (λ x. refl) runs)

-- so counts grow by no more than there are runs
pub grow_few : (runs : List Occurrence) (counts counts' : List ℕ) (most : ℕ) → CountsThese runs counts counts' → length runs ≤ most → GrowAtMost most counts counts'
grow_few runs counts counts' most counted few = record {
  as_many = counted.as_many;
  each = λ number within. omega (arith, counted.grown number within, named_few number runs, few);
  together = omega (arith, sums_few runs counts counts' counted, few);
}

-- nothing has grown
pub grow_none : (counts : List ℕ) (most : ℕ) → GrowAtMost most counts counts
grow_none counts most = record { as_many = refl; each = λ number within. omega arith; together = omega arith }

-- more was given, and counted
pub metered_more : (whole left left' : Option (List ℕ)) (start bytes bytes' : ℕ) (given : List ℕ) → Consumes left left' given → bytes' ≡ min (bytes + length given) (2 ^ 64 - 1)
    → IsMetered whole left start bytes → IsMetered whole left' start bytes'
metered_more whole None left' start bytes bytes' given read more is known = let clash = (is known).0 in absurd (cc)
metered_more whole (Some xs) None start bytes bytes' given read more is known = absurd read
metered_more whole (Some xs) (Some ys) start bytes bytes' given read more is known =
    let was = is known in
    let sizes : length xs ≡ length given + length ys = ap length read ∙ length-append given ys in
    (refl, omega (arith, was.1, sizes), omega (arith, was.1, was.2, more, sizes))

-- so a text that was read of all is what was counted, where it is known
pub metered_read : (known left left' whole : Option (List ℕ)) (start bytes : ℕ) (text : List ℕ) → Keeps known left → whole ≡ left → Consumes known left' text → IsMetered whole left' start bytes
    → is_some known ≡ true → bytes ≡ min (start + length text) (2 ^ 64 - 1)
metered_read None left left' whole start bytes text kept same read is told = absurd (cc)
metered_read (Some xs) None left' whole start bytes text kept same read is told = absurd kept
metered_read (Some xs) (Some ys) None whole start bytes text kept same read is told = absurd read
metered_read (Some xs) (Some ys) (Some zs) whole start bytes text kept same read is told =
    omega (arith, (is (ap is_some same)).2, ap known_size same, ap length kept, ap length read ∙ length-append text zs)

-- and no number has grown by more than was read, where that is known; else anything may have been
pub numbers_of : (known left' : Option (List ℕ)) (counts counts' : List ℕ) (bytes bytes' : ℕ) (text : List ℕ) → Consumes known left' text
    → (is_some known ≡ true → bytes' ≡ min (bytes + length text) (2 ^ 64 - 1)) → GrowAtMost (length text) counts counts' → NumbersRead (λ Reads. Reads known left') counts counts' bytes bytes'
numbers_of None left' counts counts' bytes bytes' text read is grow = record {
  size = length text + bytes';
  read = (text ++ replicate bytes' 0, tt, length-append text (replicate bytes' 0) ∙ ap (λ (n : ℕ). length text + n) (length-replicate bytes' 0));
  counted = record { as_many = grow.as_many; each = λ number within. omega (arith, grow.each number within); together = omega (arith, grow.together) };
  added = omega arith;
}
numbers_of (Some xs) left' counts counts' bytes bytes' text read is grow = record { size = length text; read = (text, read, refl); counted = grow; added = omega (arith, is refl) }

-- nothing was read and nothing has grown
pub no_numbers : (holds : List ℕ → Option (List ℕ)) (name : List ℕ) (left : Option (List ℕ)) (counts : List ℕ) (bytes : ℕ) → NumbersRead (λ Reads. OfName holds name Reads left left) counts counts bytes bytes
no_numbers holds name left counts bytes =
    record { size = 0; read = name_unread holds name (ReadsSize 0) left (λ l. ([], Consumes-nil l, refl)); counted = grow_none counts 0; added = omega arith }

-- the numbers of a file, and then of others
pub numbers_more : (holds : List ℕ → Option (List ℕ)) (name : List ℕ) (names : List (List ℕ)) (counts half counts' : List ℕ) (volume mid volume' : Volume) (left between left' : Option (List ℕ)) (whole : Bool)
    → NumbersRead (λ Reads. OfName holds name Reads left between) counts half volume.bytes mid.bytes → mid.files ≡ files_with whole volume.files → NumbersOfAll holds names half counts' mid volume' between left'
    → NumbersOfAll holds (name ∷ names) counts counts' volume volume' left left'
numbers_more holds name names counts half counts' volume mid volume' left between left' whole one files more = record {
  size = one.size + more.size;
  read = (one.size, more.size, refl, between, one.read, more.read);
  counted = record {
    as_many = more.counted.as_many ∙ one.counted.as_many;
    each = λ number within. omega (arith, one.counted.each number within, more.counted.each number (subst (λ (n : ℕ). number < n) (sym one.counted.as_many) within));
    together = omega (arith, one.counted.together, more.counted.together);
  };
  bytes = omega (arith, more.bytes, one.added);
  files = let size : length (name ∷ names) ≡ length names + 1 = omega arith in omega (arith, more.files, size, files, one_file whole volume.files);
}
  where
    -- one file more at most
    one_file : (whole : Bool) (files : ℕ) → files_with whole files ≤ files + 1
    one_file true files = omega arith
    one_file false files = omega arith

-- one file was read and counted, and then others
pub volume_more : (holds : List ℕ → Option (List ℕ)) (name : List ℕ) (names : List (List ℕ)) (volume mid volume' : Volume) (left between left' : Option (List ℕ)) → AddsName holds name volume.bytes mid.bytes left between
    → mid.files ≡ grown_count volume.files 1 → ReadsVolume holds names mid volume' between left' → ReadsVolume holds (name ∷ names) volume volume' left left'
volume_more holds name names volume mid volume' left between left' adds one more = record {
  bytes = (mid.bytes, between, adds, more.bytes);
  files =
      let size : length (name ∷ names) ≡ length names + 1 = omega arith in
      let so = more.files in
      omega (arith, so, size, one);
}

-- what was read of one file alone
pub one_added : (holds : List ℕ → Option (List ℕ)) (name : List ℕ) (volume volume' : Volume) (left left' : Option (List ℕ)) → ReadsVolume holds (name ∷ []) volume volume' left left' → AddsName holds name volume.bytes volume'.bytes left left'
one_added holds name volume volume' left left' reads = let (bytes, between, adds, (same, there)) = reads.bytes in rw (same, there) adds
