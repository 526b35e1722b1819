-- There is only one overhang.
use Rattle.std.proofs.Common.{◌<◌, arith}
use Rattle.std.proofs.lemmas.Bool.{ltb-true, lt-ltb}
use Rattle.aho_backward.proofs.Overhangs.{overhang-unique}
use Rattle.aho_backward.proofs.overhang.is_worth_it.Goals as goal

pub returns : goal.returns
returns g c = record {
  worth = λ p of words most is.
      let made = c.longest_overhang.ensures.overhang p of words in
      let low = overhang-unique p most c.longest_overhang.result is made in
      let high = overhang-unique p c.longest_overhang.result most made is in
      (λ more. let above : 64 < c.longest_overhang.result = ltb-true 64 c.longest_overhang.result more in omega (arith, above, low, high), λ more. lt-ltb 64 c.longest_overhang.result (omega (arith, low, high, more)));
}
