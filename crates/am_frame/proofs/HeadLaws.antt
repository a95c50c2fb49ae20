-- Heads of frames that are cut off or bad.
use Rattle.std.proofs.Common.{◌≡◌, ◌≢◌, ℕ, suc, ◌-◌, ◌<◌, ◌≤◌, ◌^◌, List, [], ◌∷◌, ◌++◌, length, take, drop, get_or, true, false, refl, sym, ap, subst, ◌∙◌, arith, append_assoc, length-append, Some, None, Result, Ok, Err, nat_lt}
use Rattle.std.specs.Prelude.{All}
use Rattle.std.proofs.lemmas.Bool.Decides.{nat_tests}
use Rattle.std.proofs.lemmas.List.{take-append-drop, take_all, length-replicate, length-drop, take-append-le}
use Rattle.std.proofs.Math.ListN.{replicate}
use Rattle.am_leb.specs.Leb.{uleb, IsHigh, unsigned_value}
use Rattle.am_leb.specs.Reading.{first_unsigned, unsigned_at, judged, end_within}
use Rattle.am_leb.specs.declared.LebFault.{LebFault}
use Rattle.am_leb.specs.declared.LebFault.TheVariants.{Short}
use Rattle.am_leb.proofs.Ends.{end_within-front}
use Rattle.am_leb.proofs.Answering.{only, high, high_only}
use Rattle.am_frame.specs.Frames.{magic, covered}
use Rattle.am_frame.specs.Faults.{IsBadMagic, IsTruncated, IsBadLength, BeginsNoNumber}
use Rattle.am_frame.specs.Heads.{IsShort}

-- few bytes that aren't the front of the magic
pub no_front : (b front : List ℕ) → length b < 4 → front ≡ take (length b) magic → b ≢ front → IsBadMagic b
no_front b front few is differ = λ e. differ (sym (take_all 4 b (omega arith)) ∙ e ∙ sym is)

pub no_magic : (b front : List ℕ) → 4 ≤ length b → front ≡ take 4 b → front ≢ magic → IsBadMagic b
no_magic b front many is differ = λ e. differ (is ∙ e ∙ take_all (length b) magic many)

abbrev empty : List ℕ
empty = 0 ∷ 0 ∷ 0 ∷ 0 ∷ covered 0 []

pub short_magic : (b : List ℕ) → length b < 4 → b ≡ take (length b) magic → IsTruncated b
short_magic b few is = record {
  checksum = 0 ∷ 0 ∷ 0 ∷ 0 ∷ [];
  kind = 0;
  contents = [];
  more = drop (length b) magic ++ empty;
  checksum_is = refl;
  within = omega arith;
  some = omega (arith, length-append (drop (length b) magic) empty);
  whole = sym (append_assoc b (drop (length b) magic) empty) ∙ ap (λ x. (x ++ drop (length b) magic) ++ empty) is ∙ ap (λ x. x ++ empty) (take-append-drop (length b) magic);
}

abbrev zeros : List ℕ
zeros = 0 ∷ 0 ∷ 0 ∷ 0 ∷ []

pub short_head : (b head : List ℕ) → b ≡ magic ++ head → length head < 5 → IsTruncated b
short_head b head is few = record {
  checksum = head ++ drop (length head) zeros;
  kind = 0;
  contents = [];
  more = drop (length head) zeros ++ covered 0 [];
  checksum_is = omega (arith, length-append head (drop (length head) zeros), length-drop (length head) zeros);
  within = omega arith;
  some = omega (arith, length-append (drop (length head) zeros) (covered 0 []));
  whole = ap (λ x. x ++ (drop (length head) zeros ++ covered 0 [])) is ∙ ap (λ x. magic ++ x) (sym (append_assoc head (drop (length head) zeros) (covered 0 [])));
}

-- what was read at an end stays, whatever follows
stable : (a more : List ℕ) (len : ℕ) → end_within 10 a ≡ Some len → first_unsigned (a ++ more) ≡ first_unsigned a
unfolding first_unsigned
stable a more len e =
    let f = end_within-front 10 a len e in
    let whole : take len a ++ (drop len a ++ more) ≡ a ++ more = sym (append_assoc (take len a) (drop len a) more) ∙ ap (λ x. x ++ more) (take-append-drop len a) in
    let again : end_within 10 (a ++ more) ≡ Some len = sym (ap (end_within 10) whole) ∙ f.1 (drop len a ++ more) in
    let front : take len (a ++ more) ≡ take len a = take-append-le len a more f.0 in
    ap (unsigned_at (a ++ more)) again ∙ ap (λ s. judged (unsigned_value s) len) front ∙ sym (ap (unsigned_at a) e)

stays_none : (a more : List ℕ) → end_within 10 a ≡ None → 10 ≤ length a → end_within 10 (a ++ more) ≡ None
stays_none a more e many =
    let front : take 10 (a ++ more) ≡ take 10 a = take-append-le 10 a more many in
    high_only (a ++ more) (subst (λ xs. All (λ b. 128 ≤ b) xs) (sym front) (high a e))

-- bytes that are refused as no number, but for too few of them, begin none whatever follows
pub no_number : (a : List ℕ) (fault : LebFault) → first_unsigned a ≡ Err fault → fault ≢ Short → BeginsNoNumber a
unfolding first_unsigned
no_number a fault is far more n rest less e =
    let found : first_unsigned (a ++ more) ≡ Ok (n, length (uleb n)) = only (a ++ more) n rest less e in
    elim (end_within 10 a) as (λ o. end_within 10 a ≡ o → ⊥) [
      | None ↦ λ none. elim (nat_lt (length a) 10) as (λ t. nat_lt (length a) 10 ≡ t → ⊥) [
        | true ↦ λ t. let short : first_unsigned a ≡ Err Short = ap (unsigned_at a) none ∙ rw t refl in let same : fault ≡ Short = cc in far same
        | false ↦ λ t. let again = stays_none a more none (grind (arith, nat_tests)) in let bad : ◌≡◌ {A = Result (ℕ × ℕ) LebFault} (unsigned_at (a ++ more) None) (Ok (n, length (uleb n))) = sym (ap (unsigned_at (a ++ more)) again) ∙ found in cc
      ] refl
      | Some len ↦ λ some. let bad : ◌≡◌ {A = Result (ℕ × ℕ) LebFault} (Err fault) (Ok (n, length (uleb n))) = sym is ∙ sym (stable a more len some) ∙ found in cc
    ] refl

pub is_high : (bytes : List ℕ) → All (λ b. 128 ≤ b) bytes → ((i : ℕ) → get_or bytes i 0 < 256) → IsHigh bytes
is_high [] all small = tt
is_high (b ∷ bytes) all small = (all 0 0 (omega arith), small 0, is_high bytes (λ k d lt. all (suc k) d (omega arith)) (λ i. small (suc i)))

-- all bytes say that more follow
pub short_number : (bytes : List ℕ) (n : ℕ) → n < 2 ^ 64 → bytes ++ 1 ∷ [] ≡ uleb n → IsShort bytes
short_number bytes n less is =
    let long = length-replicate {A = ℕ} n 0 in (
      replicate n 0,
      1 ∷ replicate n 0,
      omega (arith, long),
      omega arith,
      sym (append_assoc bytes (1 ∷ []) (replicate n 0)) ∙ ap (λ x. x ++ replicate n 0) is ∙ ap (λ k. uleb k ++ replicate n 0) (sym long),
    )

-- the length is there, and fewer bytes than that
pub short_rest : (bytes body : List ℕ) (n size : ℕ) → take size bytes ≡ uleb n → n < 2 ^ 64 → body ≡ drop size bytes → length body < n → IsShort bytes
short_rest bytes body n size front less back few =
    let rest = replicate (n - length body) 0 in
    let long : length (body ++ rest) ≡ n = omega (arith, length-append body rest, length-replicate {A = ℕ} (n - length body) 0) in
    let joined : bytes ≡ uleb n ++ body = sym (take-append-drop size bytes) ∙ ap (λ x. x ++ drop size bytes) front ∙ ap (λ x. uleb n ++ x) (sym back) in (
      body ++ rest,
      rest,
      omega (arith, long),
      omega (arith, length-replicate {A = ℕ} (n - length body) 0),
      ap (λ x. x ++ rest) joined ∙ append_assoc (uleb n) body rest ∙ ap (λ k. uleb k ++ (body ++ rest)) (sym long),
    )

pub short_body : (b checksum behind : List ℕ) (kind : ℕ) → b ≡ magic ++ (checksum ++ kind ∷ behind) → length checksum ≡ 4 → IsShort behind → IsTruncated b
short_body b checksum behind kind is four s = record {
  checksum = checksum;
  kind = kind;
  contents = s.0;
  more = s.1;
  checksum_is = four;
  within = s.2;
  some = s.3;
  whole = ap (λ x. x ++ s.1) is ∙ ap (λ x. magic ++ x) (append_assoc checksum (kind ∷ behind) s.1 ∙ ap (λ x. checksum ++ kind ∷ x) s.4);
}

pub bad_length : (b checksum behind : List ℕ) (kind : ℕ) → b ≡ magic ++ (checksum ++ kind ∷ behind) → length checksum ≡ 4 → BeginsNoNumber behind → IsBadLength b
bad_length b checksum behind kind is four bad = record { checksum = checksum; kind = kind; rest = behind; checksum_is = four; bytes_are = is; bad = bad }

-- the parts of a head, as the code takes them
pub head_is : (b front head checksum body behind : List ℕ) (kind : ℕ) → front ≡ take 4 b → front ≡ magic → head ≡ drop 4 b → checksum ≡ take 4 head → body ≡ drop 4 head → 0 < length body → kind ≡ get_or body 0 0 → behind ≡ drop 1 body → b ≡ magic ++ (checksum ++ kind ∷ behind)
head_is b front head checksum body behind kind f m h c d some k l =
    sym (take-append-drop 4 b) ∙ ap (λ x. x ++ drop 4 b) (sym f ∙ m) ∙ ap (λ x. magic ++ x) (sym h ∙ sym (take-append-drop 4 head) ∙ ap (λ x. x ++ drop 4 head) (sym c) ∙ ap (λ x. checksum ++ x) (sym d ∙ first body some ∙ ap (λ x. x ∷ drop 1 body) (sym k) ∙ ap (λ x. kind ∷ x) (sym l)))
  where
    first : (xs : List ℕ) → 0 < length xs → xs ≡ get_or xs 0 0 ∷ drop 1 xs
    first [] h = absurd (omega arith)
    first (x ∷ xs) h = refl
