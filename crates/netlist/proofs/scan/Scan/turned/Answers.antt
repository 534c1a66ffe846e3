use Rattle.std.proofs.Common.{◌≡◌, ℕ, arith, eqb, refl, ◌||◌, rules}
use Rattle.std.proofs.lemmas.Bool.Decides.{nat_tests}
use Rattle.std.proofs.lemmas.Result.{err_from_is_err_and}
use Rattle.std.specs.Int.{is_in_range}
use Rattle.netlist.proofs.Sound.{count_shorter}
use Rattle.netlist.proofs.scan.Scan.turned.Goals as goal

pub returns-in_err-modules-in-Start : goal.returns-in_err-modules-in-Start
returns-in_err-modules-in-Start c =
    let p = err_from_is_err_and c.from_residual.result c.from_residual.ensures.1 in
    let read = c.in_err-modules-in-Start.ensures (is_in_range 1 64) (λ n h. grind (arith, nat_tests)) (λ n r l p. search rules) in
    rw (p.1, p.2, c.in-Start.is, read) refl

pub returns-in_ok-modules-in-Start : goal.returns-in_ok-modules-in-Start
returns-in_ok-modules-in-Start c =
    let test = is_in_range 1 64 in
    let read = c.in_ok-modules-in-Start.ensures test (λ n h. grind (arith, nat_tests)) (λ n r l p. search rules) in
    rw (c.in-Start.is, read) (refl, omega arith, count_shorter test _ _ _ read)

pub returns-in_ok-channels-in-Modules : goal.returns-in_ok-channels-in-Modules
returns-in_ok-channels-in-Modules c =
    let test = is_in_range 0 192 in
    let read = c.in_ok-channels-in-Modules.ensures test (λ n h. grind (arith, nat_tests)) (λ n r l p. search rules) in
    let none : c.args.self.now.left ≡ 0 = grind (arith, nat_tests, rw c.in-Modules.is at c.requires) in
    rw (c.in-Modules.is, none, read) (refl, omega arith, count_shorter test _ _ _ read)

pub returns-in_ok-left-in-Channels : goal.returns-in_ok-left-in-Channels
returns-in_ok-left-in-Channels c =
    let test = λ (s : ℕ). eqb s 0 || eqb s c.in-Channels.channels in
    let read = c.in_ok-left-in-Channels.ensures test (λ n h. grind (arith, nat_tests)) (λ n r l p. search rules) in
    let none : c.args.self.now.left ≡ 0 = grind (arith, nat_tests, rw c.in-Channels.is at c.requires) in
    rw (c.in-Channels.is, none, read) (refl, omega arith, count_shorter test _ _ _ read)
