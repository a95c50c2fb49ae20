-- The number that fills a list of bytes is the one of which they are the shortest spelling.
use Rattle.std.proofs.Common.{ℕ, ℤ, ◌≡◌, ◌<◌, ◌^◌, ◌↔◌, ◌==◌, List, [], length, take, get_or, Some, None, Result, Ok, Err, refl, sym, ap, ◌∙◌, subst, inl, inr, eq-eqb, arith}
use Rattle.std.specs.Prelude.{FitsSigned}
use Rattle.std.specs.Int.{w64}
use Rattle.std.proofs.lemmas.Bool.{cases_Bool, cases_lt, eqb-true}
use Rattle.std.proofs.lemmas.List.{append-nil, take_all, get_or_past}
use Rattle.am_leb.specs.declared.LebFault.{LebFault}
use Rattle.am_leb.specs.Leb.{uleb, leb, IsUleb, IsLeb}
use Rattle.am_leb.specs.Reading.{first_unsigned, first_signed}
use Rattle.am_leb.proofs.Answering as unsigned
use Rattle.am_leb.proofs.SignedAnswering as signed
use Rattle.am_leb.proofs.Laws.{IsUleb-is_uleb}
use Rattle.am_leb.proofs.SignedLaws.{IsLeb-is_leb}
use Rattle.am_types.specs.Bytes.{IsBytes}
use Rattle.am_types.specs.Numbers.{if_whole, unsigned_of, signed_of}

byte_at : (bytes : List ℕ) → IsBytes bytes → (i : ℕ) → get_or bytes i 0 < 256
byte_at bytes are i = elim (cases_lt i (length bytes)) [
  | inl l ↦ are i 0 l
  | inr le ↦ let e : get_or bytes i 0 ≡ 0 = get_or_past bytes i 0 le in omega arith
]

module _ {N : Type 0} (bytes : List ℕ) (n : N) where
  -- what was read is n, and its spelling is the whole
  whole_found : (P : List ℕ → N → Type 0) (m : N) (len : ℕ) → P (take len bytes) m → if_whole bytes (Ok (m, len)) ≡ Some n → P bytes n
  whole_found P m len p e = elim (cases_Bool (len == length bytes)) [
    | inl t ↦ let f : Some m ≡ Some n = simp t at e in
        let is : m ≡ n = cc in
        let all : take len bytes ≡ bytes = take_all len bytes (let g = eqb-true len (length bytes) t in omega arith) in
        subst (P bytes) is (subst (λ s. P s m) all p)
    | inr t ↦ let f : None ≡ Some n = simp t at e in absurd (none_some f)
  ]
    where
      none_some : None ≡ Some n → ⊥
      none_some f = cc

  whole_from : if_whole bytes (Ok (n, length bytes)) ≡ Some n
  whole_from = let t = eq-eqb (length bytes) (length bytes) refl in simp t refl

fault_found : {N : Type 0} (bytes : List ℕ) (n : N) (fault : LebFault) → if_whole bytes (Err fault) ≡ Some n → ⊥
fault_found bytes n fault e = cc

pub unsigned_is_shortest : (bytes : List ℕ) (n : ℕ) → IsBytes bytes → (unsigned_of bytes ≡ Some n) ↔ ((n < 2 ^ 64) × IsUleb bytes n)
unfolding unsigned_of
unsigned_is_shortest bytes n are = (
  go (first_unsigned bytes) (unsigned.found bytes (byte_at bytes are)),
  λ h. let is : bytes ≡ uleb n = IsUleb-is_uleb h.1 in
      let read : first_unsigned bytes ≡ Ok (n, length (uleb n)) = unsigned.only bytes n [] h.0 (is ∙ sym (append-nil (uleb n))) in
      ap (if_whole bytes) (read ∙ ap (λ l. Ok (n, length l)) (sym is)) ∙ whole_from bytes n,
)
  where
    go : (r : Result (ℕ × ℕ) LebFault) → unsigned.Found bytes r → if_whole bytes r ≡ Some n → (n < 2 ^ 64) × IsUleb bytes n
    go (Err fault) f e = absurd (fault_found bytes n fault e)
    go (Ok p) f e = whole_found bytes n (λ s m. (m < 2 ^ 64) × IsUleb s m) p.0 p.1 (f.0, f.2) e

pub signed_is_shortest : (bytes : List ℕ) (n : ℤ) → IsBytes bytes → (signed_of bytes ≡ Some n) ↔ (FitsSigned w64 n × IsLeb bytes n)
unfolding signed_of
signed_is_shortest bytes n are = (
  go (first_signed bytes) (signed.found bytes (byte_at bytes are)),
  λ h. let is : bytes ≡ leb n = IsLeb-is_leb bytes n h.1 in
      let read : first_signed bytes ≡ Ok (n, length (leb n)) = signed.only bytes n [] h.0 (is ∙ sym (append-nil (leb n))) in
      ap (if_whole bytes) (read ∙ ap (λ l. Ok (n, length l)) (sym is)) ∙ whole_from bytes n,
)
  where
    go : (r : Result (ℤ × ℕ) LebFault) → signed.Found bytes r → if_whole bytes r ≡ Some n → FitsSigned w64 n × IsLeb bytes n
    go (Err fault) f e = absurd (fault_found bytes n fault e)
    go (Ok p) f e = whole_found bytes n (λ s m. FitsSigned w64 m × IsLeb s m) p.0 p.1 (f.0, f.2) e
