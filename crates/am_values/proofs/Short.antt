-- A number that fills its bytes has at most ten of them.
use Rattle.std.proofs.Common.{◌≡◌, ℕ, ℤ, ◌^◌, ◌<◌, ◌≤◌, List, length, take, Option, Some, None, Result, Ok, refl, sym, ap, ◌∙◌, subst, arith}
use Rattle.std.specs.Prelude.{IfOk, IfSome}
use Rattle.std.proofs.lemmas.List.{take_all}
use Rattle.am_leb.specs.declared.LebFault.{LebFault}
use Rattle.am_leb.specs.Leb.{uleb, leb, IsUleb}
use Rattle.am_leb.specs.Reading.{first_signed, from_magnitude}
use Rattle.am_leb.proofs.Answering.{IsBytes, first_signed-fits, first_signed-is}
use Rattle.am_leb.proofs.Laws.{IsUleb-is_uleb, length_uleb-le}
use Rattle.am_leb.proofs.SignedLaws.{length_leb-le}

pub short_unsigned : (bytes : List ℕ) (n len : ℕ) → len ≡ length bytes → n < 2 ^ 64 → IsUleb (take len bytes) n → length bytes < 2 ^ 60
short_unsigned bytes n len e h u =
    let whole : take len bytes ≡ bytes = take_all len bytes (omega arith) in
    let size : length bytes ≡ length (uleb n) = ap length (sym whole ∙ IsUleb-is_uleb u) in
    omega (arith, length_uleb-le n h)

pub short_signed : (bytes : List ℕ) (z : ℤ) (len : ℕ) → IsBytes bytes → Ok (z, len) ≡ first_signed bytes → len ≡ length bytes → length bytes < 2 ^ 60
short_signed bytes z len all r e =
    let w = first_signed-is bytes z len all (sym r) in
    let f = first_signed-fits bytes z len (sym r) in
    let whole : take len bytes ≡ bytes = take_all len bytes (omega arith) in
    let size : length bytes ≡ length (leb (from_magnitude f.0 f.1)) = ap length (sym whole ∙ w.0 ∙ ap leb f.3) in
    omega (arith, length_leb-le f.0 f.1 f.2)

pub unsigned_short : (bytes : List ℕ) (read : Result (ℕ × ℕ) LebFault) (found : Option ℕ) → IfOk read (λ r. (r.0 < 2 ^ 64) × (r.1 ≤ length bytes) × IsUleb (take r.1 bytes) r.0) → IfSome found (λ n. read ≡ Ok (n, length bytes)) → IfSome found (λ n. length bytes < 2 ^ 60)
unsigned_short bytes read None is whole = tt
unsigned_short bytes read (Some n) is whole =
    let w = subst (λ r. IfOk r (λ r. (r.0 < 2 ^ 64) × (r.1 ≤ length bytes) × IsUleb (take r.1 bytes) r.0)) whole is in
    short_unsigned bytes n (length bytes) refl w.0 w.2

pub signed_short : (bytes : List ℕ) (read : Result (ℤ × ℕ) LebFault) (found : Option ℤ) → IsBytes bytes → read ≡ first_signed bytes → IfSome found (λ z. read ≡ Ok (z, length bytes)) → IfSome found (λ z. length bytes < 2 ^ 60)
signed_short bytes read None all is whole = tt
signed_short bytes read (Some z) all is whole = short_signed bytes z (length bytes) all (sym whole ∙ is) refl
