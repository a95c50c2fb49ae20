-- The three kinds of items keep what is asked of `end`: it reads within the bytes, and no item begins another. An item of a number is the spelling of what it spells.
use Rattle.std.proofs.Common.{◌≡◌, ℕ, ℤ, ◌+◌, ◌-◌, ◌<◌, ◌≤◌, ◌^◌, Bool, true, false, nat_le, ◌&&◌, cond, List, [], ◌∷◌, ◌++◌, length, take, drop, Some, None, Result, Ok, Err, refl, sym, ap, ◌∙◌, arith, append_assoc, length-append}
use Rattle.std.specs.Str.{is_utf8}
use Rattle.std.proofs.lemmas.Bool.Decides.{nat_tests}
use Rattle.std.proofs.lemmas.List.{append-nil, length-take-le, length-drop, take_all, take_at, drop_at, take-append-drop, drop-take}
use Rattle.std.proofs.Math.Seq.{take-append-add}
use Rattle.am_leb.specs.declared.LebFault.{LebFault}
use Rattle.am_leb.specs.Leb.{uleb, leb, unsigned_value, signed_value}
use Rattle.am_leb.specs.Reading.{first_unsigned, first_signed}
use Rattle.am_leb.proofs.Laws.{uleb_is}
use Rattle.am_leb.proofs.OneByte.{first_unsigned-low, first_signed-low}
use Rattle.am_leb.proofs.SignedLaws.{leb_is}
use Rattle.am_leb.proofs.Answering.{IsBytes, first_unsigned-prefix, first_signed-prefix, first_unsigned-front, first_signed-front}
use Rattle.am_runs.specs.Items.{ReadsItems, IsItem, length_read, unsigned_end, signed_end, text_end_by, text_end}

pub read_ok : {A : Type 0} (r : Result (A × ℕ) LebFault) (n : ℕ) → length_read r ≡ Some n → (x : A × ℕ) × (r ≡ Ok x) × (x.1 ≡ n)
read_ok (Err e) n h = absurd (cc)
read_ok (Ok x) n h = (x, refl, cc)

pub unsigned_reads : ReadsItems unsigned_end
unsigned_reads = record {
  found = λ bytes n e.
      let w = read_ok (first_unsigned bytes) n e in
      let v = first_unsigned-prefix bytes w.0 w.1 in
      let le : n ≤ length bytes = omega (arith, v.0, w.2) in
      let r : first_unsigned (take (w.0).1 bytes) ≡ Ok w.0 = ap first_unsigned (sym (append-nil (take (w.0).1 bytes))) ∙ v.1 [] in
      (le, ap (λ m. unsigned_end (take m bytes)) (sym w.2) ∙ ap length_read r ∙ ap Some (w.2 ∙ sym (length-take-le n bytes le)));
  again = λ item rest e.
      let w = read_ok (first_unsigned item) (length item) e in
      let v = first_unsigned-prefix item w.0 w.1 in
      let whole : take (w.0).1 item ≡ item = take_all (w.0).1 item (omega (arith, w.2)) in
      ap (λ s. unsigned_end (s ++ rest)) (sym whole) ∙ ap length_read (v.1 rest) ∙ ap Some w.2;
}

pub signed_reads : ReadsItems signed_end
signed_reads = record {
  found = λ bytes n e.
      let w = read_ok (first_signed bytes) n e in
      let v = first_signed-prefix bytes w.0 w.1 in
      let le : n ≤ length bytes = omega (arith, v.0, w.2) in
      let r : first_signed (take (w.0).1 bytes) ≡ Ok w.0 = ap first_signed (sym (append-nil (take (w.0).1 bytes))) ∙ v.1 [] in
      (le, ap (λ m. signed_end (take m bytes)) (sym w.2) ∙ ap length_read r ∙ ap Some (w.2 ∙ sym (length-take-le n bytes le)));
  again = λ item rest e.
      let w = read_ok (first_signed item) (length item) e in
      let v = first_signed-prefix item w.0 w.1 in
      let whole : take (w.0).1 item ≡ item = take_all (w.0).1 item (omega (arith, w.2)) in
      ap (λ s. signed_end (s ++ rest)) (sym whole) ∙ ap length_read (v.1 rest) ∙ ap Some w.2;
}

-- no bytes begin with no number
pub unsigned_nothing : None ≡ unsigned_end []
unfolding first_unsigned
unsigned_nothing = refl

pub signed_nothing : None ≡ signed_end []
unfolding first_signed
signed_nothing = refl

-- a byte below 128 is a number by itself
pub unsigned_single : (b : ℕ) (tail : List ℕ) → b < 128 → unsigned_end (b ∷ tail) ≡ Some 1
unsigned_single b tail h = ap length_read (first_unsigned-low (b ∷ tail) tail b h refl)

pub signed_single : (b : ℕ) (tail : List ℕ) → b < 128 → signed_end (b ∷ tail) ≡ Some 1
signed_single b tail h = ap length_read (first_signed-low (b ∷ tail) tail b h refl)

-- ---- what a number's item spells

nothing_behind : (bytes : List ℕ) (n : ℕ) → n ≡ length bytes → drop n bytes ≡ []
nothing_behind bytes n e = ap (λ b. drop n b) (sym (append-nil bytes)) ∙ drop_at bytes [] n (sym e)

pub unsigned_is : (x : List ℕ) → IsBytes x → IsItem unsigned_end x → (n : ℕ) × (n < 2 ^ 64) × (x ≡ uleb n)
unsigned_is x f e =
    let w = read_ok (first_unsigned x) (length x) e in
    let v = first_unsigned-front x (w.0).0 (w.0).1 f w.1 in
    ((w.0).0, v.0, v.2 ∙ ap (λ b. uleb (w.0).0 ++ b) (nothing_behind x (w.0).1 w.2) ∙ append-nil (uleb (w.0).0))

pub signed_read : (x : List ℕ) → IsBytes x → IsItem signed_end x → (z : ℤ) × (len : ℕ) × (first_signed x ≡ Ok (z, len)) × (x ≡ leb z)
signed_read x f e =
    let w = read_ok (first_signed x) (length x) e in
    let v = first_signed-front x (w.0).0 (w.0).1 f w.1 in
    ((w.0).0, (w.0).1, w.1, v ∙ ap (λ b. leb (w.0).0 ++ b) (nothing_behind x (w.0).1 w.2) ∙ append-nil (leb (w.0).0))

pub unsigned_again : (x : List ℕ) → IsBytes x → IsItem unsigned_end x → uleb (unsigned_value x) ≡ x
unsigned_again x f e = let w = unsigned_is x f e in ap uleb (ap unsigned_value w.2 ∙ (uleb_is w.0).value_is) ∙ sym w.2

pub signed_again : (x : List ℕ) → IsBytes x → IsItem signed_end x → leb (signed_value x) ≡ x
signed_again x f e = let w = signed_read x f e in ap leb (ap signed_value w.3 ∙ (leb_is w.0).value_is) ∙ sym w.3

-- ---- texts

pub record IsTextAt (bytes : List ℕ) (k : ℕ) : Type 0 where
  pub n : ℕ
  pub len : ℕ
  pub read : first_unsigned bytes ≡ Ok (n, len)
  pub within : n ≤ length bytes - len
  pub text : is_utf8 (take n (drop len bytes)) ≡ true
  pub end_is : k ≡ len + n

both : (a b : Bool) → (a && b) ≡ true → (a ≡ true) × (b ≡ true)
both true b h = (refl, h)
both false b h = absurd (cc)

chosen : (b : Bool) (n k : ℕ) → cond b (Some n) None ≡ Some k → (b ≡ true) × (k ≡ n)
chosen true n k h = (refl, cc)
chosen false n k h = absurd (cc)

pub text_found : (bytes : List ℕ) (k : ℕ) → text_end bytes ≡ Some k → IsTextAt bytes k
text_found bytes k e = by_read (first_unsigned bytes) refl e
  where
    by_read : (r : Result (ℕ × ℕ) LebFault) → first_unsigned bytes ≡ r → text_end_by bytes r ≡ Some k → IsTextAt bytes k
    by_read (Err d) r e = absurd (cc)
    by_read (Ok x) r e =
        let c = chosen (nat_le x.0 (length bytes - x.1) && is_utf8 (take x.0 (drop x.1 bytes))) (x.1 + x.0) k e in
        let b = both (nat_le x.0 (length bytes - x.1)) (is_utf8 (take x.0 (drop x.1 bytes))) c.0 in
        let t = b.0 in
        record { n = x.0; len = x.1; read = r; within = grind (arith, nat_tests); text = b.1; end_is = c.1 }

pub text_stands : (bytes front text rest : List ℕ) (n len : ℕ) → bytes ≡ front ++ (text ++ rest) → length front ≡ len → length text ≡ n → is_utf8 text ≡ true → first_unsigned bytes ≡ Ok (n, len) → text_end bytes ≡ Some (len + n)
text_stands bytes front text rest n len e l m u r =
    let d : drop len bytes ≡ text ++ rest = ap (drop len) e ∙ drop_at front (text ++ rest) len l in
    let t : take n (drop len bytes) ≡ text = ap (take n) d ∙ take_at text rest n m in
    let w : n ≤ length bytes - len = omega (arith, ap length e, length-append front (text ++ rest), length-append text rest) in
    let a : nat_le n (length bytes - len) ≡ true = grind (arith, nat_tests) in
    let v : is_utf8 (take n (drop len bytes)) ≡ true = ap is_utf8 t ∙ u in
    ap (text_end_by bytes) r ∙ ap (λ b. cond (b && is_utf8 (take n (drop len bytes))) (Some (len + n)) None) a ∙ ap (λ b. cond b (Some (len + n)) None) v

pub front_parts : (bytes : List ℕ) (len n : ℕ) → len + n ≤ length bytes → take (len + n) bytes ≡ take len bytes ++ (take n (drop len bytes) ++ [])
front_parts bytes len n h =
    let whole = take (len + n) bytes in
    let first : take len whole ≡ take len bytes = ap (take len) (ap (λ b. take (len + n) b) (sym (take-append-drop len bytes)) ∙ first_part) ∙ take_at (take len bytes) (take n (drop len bytes)) len (length-take-le len bytes (omega arith)) in
    sym (take-append-drop len whole) ∙ ap (λ a. a ++ drop len whole) first ∙ ap (λ b. take len bytes ++ b) (drop-take len n bytes ∙ sym (append-nil (take n (drop len bytes))))
  where
    first_part : take (len + n) (take len bytes ++ drop len bytes) ≡ take len bytes ++ take n (drop len bytes)
    first_part = ap (λ m. take (m + n) (take len bytes ++ drop len bytes)) (sym (length-take-le len bytes (omega arith))) ∙ take-append-add (take len bytes) (drop len bytes) n

pub text_reads : ReadsItems text_end
text_reads = record {
  found = λ bytes k e.
      let w = text_found bytes k e in
      let v = first_unsigned-prefix bytes (w.n, w.len) w.read in
      let le : w.len + w.n ≤ length bytes = omega (arith, w.within, v.0) in
      let parts = front_parts bytes w.len w.n le in
      let size : length (take k bytes) ≡ k = length-take-le k bytes (omega (arith, w.end_is)) in
      let same : take k bytes ≡ take (w.len + w.n) bytes = ap (λ m. take m bytes) w.end_is in
      let text = take w.n (drop w.len bytes) in (
        omega (arith, w.end_is),
        text_stands (take k bytes) (take w.len bytes) text [] w.n w.len (same ∙ parts) (length-take-le w.len bytes v.0) (length-take-le w.n (drop w.len bytes) (omega (arith, w.within, length-drop w.len bytes))) w.text
            (ap first_unsigned (same ∙ parts) ∙ v.1 (text ++ [])) ∙ ap Some (sym w.end_is ∙ sym size),
      );
  again = λ item rest e.
      let w = text_found item (length item) e in
      let v = first_unsigned-prefix item (w.n, w.len) w.read in
      let text = take w.n (drop w.len item) in
      let whole : text ≡ drop w.len item = take_all w.n (drop w.len item) (omega (arith, w.end_is, length-drop w.len item)) in
      let parts : item ++ rest ≡ take w.len item ++ (text ++ rest) = ap (λ s. s ++ rest) (sym (take-append-drop w.len item)) ∙ append_assoc (take w.len item) (drop w.len item) rest ∙ ap (λ s. take w.len item ++ (s ++ rest)) (sym whole) in
      text_stands (item ++ rest) (take w.len item) text rest w.n w.len parts (length-take-le w.len item v.0) (length-take-le w.n (drop w.len item) (omega (arith, w.within, length-drop w.len item))) w.text
      (ap first_unsigned parts ∙ v.1 (text ++ rest)) ∙ ap Some (sym w.end_is);
}
