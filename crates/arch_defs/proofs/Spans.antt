-- Spans of leaves that are wider than all addresses.
use Rattle.std.proofs.Common.{◌≡◌, ℕ, ◌+◌, ◌-◌, ◌*◌, ◌/◌, ◌^◌, ◌<◌, ◌≤◌, sym, ap, ◌∙◌, arith}
use Rattle.std.proofs.Math.Nat.{div-div-eq-div-mul, zero-div}
use Rattle.std.proofs.lemmas.Nat.{pow-add}
use Rattle.arch_defs.specs.TableEntries.{span}

far : (page k : ℕ) → page < 2 ^ 64 → 64 ≤ k → page / 2 ^ k ≡ 0
far page k small wide =
    let more : k ≡ 64 + (k - 64) = omega (arith, wide) in
    let none : page / 2 ^ 64 ≡ 0 = omega (arith, small) in
    ap (λ n. page / n) (ap (λ n. 2 ^ n) more ∙ pow-add 2 64 (k - 64))
    ∙ sym (div-div-eq-div-mul page (2 ^ 64) (2 ^ (k - 64))) ∙ ap (λ n. n / 2 ^ (k - 64)) none ∙ zero-div (2 ^ (k - 64))

pub far_span : (page level : ℕ) → page < 2 ^ 64 → 8 ≤ level → 0 ≡ page / span level
far_span page level small wide = sym (far page (9 * level) small (omega (arith, wide)))
