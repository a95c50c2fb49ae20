-- What stands first in bytes, and what is behind it.
use Rattle.std.proofs.Common.{◌≡◌, ℕ, zero, suc, ◌+◌, ◌-◌, ◌*◌, ◌<◌, ◌≤◌, ◌^◌, List, [], ◌∷◌, ◌++◌, length, take, drop, refl, sym, ap, ◌∙◌, subst, arith, append_assoc}
use Rattle.std.specs.Prelude.{Result, Ok, Some, ℤ, FitsSigned, slice_get}
use Rattle.std.specs.Int.{w64}
use Rattle.std.specs.Result.{result_unwrap_or}
use Rattle.std.specs.List.{flat_map, AllByRecursion}
use Rattle.std.proofs.lemmas.List.{take-append-drop, length-append, length-drop, length-take-le, take_at, drop_at, drop-drop, nil_from_length}
use Rattle.std.proofs.Math.Seq.{drop-append_seam}
use Rattle.am_leb.specs.Leb.{uleb, leb, signed_value, IsSpelling}
use Rattle.am_leb.proofs.SignedLaws.{leb_is}
use Rattle.am_types.specs.declared.Hash.{Hash}
use Rattle.am_colmeta.specs.Metadata.{metadata, pair_bytes, AreListed}
use Rattle.am_colmeta.specs.Actors.{prefixed, actors_bytes, AreActors}
use Rattle.am_colmeta.proofs.Splitting.{number-Splits, pair-Splits, prefixed-Splits, counted-Splits}
use Rattle.am_fields.proofs.Lists.{same_parts}
use Rattle.am_change.specs.Contents.{hashes_bytes}
use Rattle.am_change.specs.Fronts.{Front, front_bytes, Has32, IsFront}
use Rattle.am_change.specs.Building.{hash_with, hashes_in}

pub front_is : (bytes front rest : List ℕ) (size : ℕ) → take size bytes ≡ front → rest ≡ drop size bytes → bytes ≡ front ++ rest
front_is bytes front rest size f b = sym (take-append-drop size bytes) ∙ ap (λ x. x ++ drop size bytes) f ∙ ap (λ x. front ++ x) (sym b)

pub behind_is : (bytes front rest more : List ℕ) (size : ℕ) → size ≡ length front → rest ≡ drop size bytes → bytes ≡ front ++ more → rest ≡ more
behind_is bytes front rest more size long b e = b ∙ ap (λ k. drop k bytes) long ∙ ap (drop (length front)) e ∙ drop-append_seam front more

pub fields : {A E : Type 0} (a c : A) (b d : ℕ) → ◌≡◌ {A = Result (A × ℕ) E} (Ok (a, b)) (Ok (c, d)) → (a ≡ c) × (b ≡ d)
fields {A = A} {E = E} a c b d e = (ap (λ (r : Result (A × ℕ) E). (result_unwrap_or {T = A × ℕ} r (a, 0)).0) e, ap (λ (r : Result (A × ℕ) E). (result_unwrap_or {T = A × ℕ} r (a, 0)).1) e)

-- hashes

pub length-hashes_in : (n : ℕ) (bytes : List ℕ) → length (hashes_in n bytes) ≡ n
length-hashes_in zero bytes = refl
length-hashes_in (suc n) bytes = ap suc (length-hashes_in n (drop 32 bytes))

pub hashes_in-next : (n : ℕ) (bytes : List ℕ) → 0 < n → hashes_in n bytes ≡ hash_with (take 32 bytes) ∷ hashes_in (n - 1) (drop 32 bytes)
hashes_in-next zero bytes h = absurd (omega arith)
hashes_in-next (suc n) bytes h = ap (λ k. hash_with (take 32 bytes) ∷ hashes_in k (drop 32 bytes)) (let e : n ≡ suc n - 1 = omega arith in e)

-- the hash at a place
pub hash_there : (n i : ℕ) (bytes : List ℕ) → i < n → slice_get (hashes_in n bytes) i ≡ Some (hash_with (take 32 (drop (32 * i) bytes)))
hash_there zero i bytes h = absurd (omega arith)
hash_there (suc n) zero bytes h = refl
hash_there (suc n) (suc i) bytes h =
    hash_there n i (drop 32 bytes) (omega arith)
    ∙ ap (λ d. Some (hash_with (take 32 d))) (drop-drop (32 * i) 32 bytes ∙ ap (λ k. drop k bytes) (let e : 32 + 32 * i ≡ 32 * suc i = omega arith in e))

-- one more hash is read
pub hashes_step : (hashes whole next : List Hash) (bytes first more : List ℕ) (n : ℕ) → 0 < n → first ≡ take 32 bytes → more ≡ drop 32 bytes → next ≡ hashes ++ hash_with first ∷ [] → hashes ++ hashes_in n bytes ≡ whole → next ++ hashes_in (n - 1) more ≡ whole
hashes_step hashes whole next bytes first more n some f m e so_far =
    ap (λ z. z ++ hashes_in (n - 1) more) e ∙ append_assoc hashes (hash_with first ∷ []) (hashes_in (n - 1) more)
    ∙ ap (λ z. hashes ++ hash_with z ∷ hashes_in (n - 1) more) f ∙ ap (λ z. hashes ++ hash_with (take 32 bytes) ∷ hashes_in (n - 1) z) m
    ∙ ap (λ z. hashes ++ z) (sym (hashes_in-next n bytes some)) ∙ so_far

pub bytes-hashes_in : (n : ℕ) (bytes : List ℕ) → length bytes ≡ 32 * n → flat_map (λ h. h.0) (hashes_in n bytes) ≡ bytes
bytes-hashes_in zero bytes e = sym (nil_from_length bytes (e ∙ (let z : 32 * 0 ≡ 0 = refl in z)))
bytes-hashes_in (suc n) bytes e =
    ap (λ x. take 32 bytes ++ x) (bytes-hashes_in n (drop 32 bytes) (omega (arith, length-drop 32 bytes))) ∙ take-append-drop 32 bytes

pub sized-hashes_in : (n : ℕ) (bytes : List ℕ) → length bytes ≡ 32 * n → AllByRecursion Has32 (hashes_in n bytes)
sized-hashes_in zero bytes e = tt
sized-hashes_in (suc n) bytes e = (length-take-le 32 bytes (omega arith), sized-hashes_in n (drop 32 bytes) (omega (arith, length-drop 32 bytes)))

hash-same : (g h : Hash) → g.0 ≡ h.0 → g ≡ h
hash-same g h e = ap (λ x. hash_with x) e

all_hashes : (gs hs : List Hash) (r s : List ℕ) → AllByRecursion Has32 gs → AllByRecursion Has32 hs → length gs ≡ length hs → flat_map (λ h. h.0) gs ++ r ≡ flat_map (λ h. h.0) hs ++ s → (gs ≡ hs) × (r ≡ s)
all_hashes [] [] r s a b n p = (refl, p)
all_hashes [] (h ∷ hs) r s a b n p = absurd (omega arith)
all_hashes (g ∷ gs) [] r s a b n p = absurd (omega arith)
all_hashes (g ∷ gs) (h ∷ hs) r s a b n p =
    let whole : g.0 ++ (flat_map (λ h. h.0) gs ++ r) ≡ h.0 ++ (flat_map (λ h. h.0) hs ++ s) = sym (append_assoc g.0 (flat_map (λ h. h.0) gs) r) ∙ p ∙ append_assoc h.0 (flat_map (λ h. h.0) hs) s in
    let here = same_parts g.0 h.0 (flat_map (λ h. h.0) gs ++ r) (flat_map (λ h. h.0) hs ++ s) (a.0 ∙ sym b.0) whole in
    let more = all_hashes gs hs r s a.1 b.1 (omega arith) here.1 in
    (ap (λ x. x ∷ gs) (hash-same g h here.0) ∙ ap (λ l. h ∷ l) more.0, more.1)

pub hashes-split : (gs hs : List Hash) (r s : List ℕ) → AllByRecursion Has32 gs → AllByRecursion Has32 hs → hashes_bytes gs ++ r ≡ hashes_bytes hs ++ s → (gs ≡ hs) × (r ≡ s)
hashes-split gs hs r s a b p =
    let whole : uleb (length gs) ++ (flat_map (λ h. h.0) gs ++ r) ≡ uleb (length hs) ++ (flat_map (λ h. h.0) hs ++ s) = sym (append_assoc (uleb (length gs)) (flat_map (λ h. h.0) gs) r) ∙ p ∙ append_assoc (uleb (length hs)) (flat_map (λ h. h.0) hs) s in
    let n = number-Splits (length gs) (length hs) (flat_map (λ h. h.0) gs ++ r) (flat_map (λ h. h.0) hs ++ s) whole in
    all_hashes gs hs r s a b n.0 n.1

length-hashes : (hs : List Hash) → AllByRecursion Has32 hs → length (flat_map (λ h. h.0) hs) ≡ 32 * length hs
length-hashes [] a = refl
length-hashes (h ∷ hs) a = omega (arith, a.0, length-append h.0 (flat_map (λ h. h.0) hs), length-hashes hs a.1)

-- the parts that a reader cuts off are those of any hashes that stand there
pub hashes_is : (bytes body text rest : List ℕ) (n size : ℕ) → bytes ≡ uleb n ++ body → text ≡ take size body → rest ≡ drop size body → length text ≡ size → size ≡ 32 * n → bytes ≡ hashes_bytes (hashes_in n text) ++ rest
hashes_is bytes body text rest n size e t r l s =
    let joined : body ≡ text ++ rest = sym (ap (λ x. x ++ rest) t ∙ ap (λ x. take size body ++ x) r ∙ take-append-drop size body) in
    let hashes = hashes_in n text in
    let flat : text ≡ flat_map (λ h. h.0) hashes = sym (bytes-hashes_in n text (l ∙ s)) in
    e ∙ ap (λ k. uleb k ++ body) (sym (length-hashes_in n text)) ∙ ap (λ x. uleb (length hashes) ++ x) joined ∙ ap (λ x. uleb (length hashes) ++ (x ++ rest)) flat
    ∙ sym (append_assoc (uleb (length hashes)) (flat_map (λ h. h.0) hashes) rest)

pub hashes_room : (hs : List Hash) (body rest : List ℕ) → AllByRecursion Has32 hs → body ≡ flat_map (λ h. h.0) hs ++ rest → 32 * length hs ≤ length body
hashes_room hs body rest a e = omega (arith, ap length e, length-append (flat_map (λ h. h.0) hs) rest, length-hashes hs a)

pub hashes_only : (hs : List Hash) (body text rest more : List ℕ) (n size : ℕ) → AllByRecursion Has32 hs → n ≡ length hs → size ≡ 32 * n → body ≡ flat_map (λ h. h.0) hs ++ more → text ≡ take size body → rest ≡ drop size body → (hashes_in n text ≡ hs) × (rest ≡ more)
hashes_only hs body text rest more n size a count s e t r =
    let flat = flat_map (λ h. h.0) hs in
    let long : length flat ≡ size = omega (arith, length-hashes hs a) in
    let text_is : text ≡ flat = t ∙ ap (take size) e ∙ take_at flat more size long in
    let same = all_hashes (hashes_in n text) hs [] [] (sized-hashes_in n text (omega (arith, ap length text_is))) a (length-hashes_in n text ∙ count)
    (ap (λ x. x ++ []) (bytes-hashes_in n text (omega (arith, ap length text_is)) ∙ text_is)) in
    (same.0, r ∙ ap (drop size) e ∙ drop_at flat more size long)

-- no front begins another

spellings : (x y r s : List ℕ) → IsSpelling x → IsSpelling y → x ++ r ≡ y ++ s → (x ≡ y) × (r ≡ s)
spellings [] y r s h k e = absurd h
spellings (a ∷ x) [] r s h k e = absurd k
spellings (a ∷ []) (b ∷ []) r s h k e = (cc, cc)
spellings (a ∷ []) (b ∷ c ∷ y) r s h k e = let same : a ≡ b = cc in absurd (omega (arith, k.0))
spellings (a ∷ c ∷ x) (b ∷ []) r s h k e = let same : a ≡ b = cc in absurd (omega (arith, h.0))
spellings (a ∷ c ∷ x) (b ∷ d ∷ y) r s h k e =
    let first : a ≡ b = cc in
    let rest : (c ∷ x) ++ r ≡ (d ∷ y) ++ s = cc in
    let more = spellings (c ∷ x) (d ∷ y) r s h.2 k.2 rest in
    (ap (λ z. z ∷ c ∷ x) first ∙ ap (λ l. b ∷ l) more.0, more.1)

signed-Splits : (y z : ℤ) (r s : List ℕ) → leb y ++ r ≡ leb z ++ s → (y ≡ z) × (r ≡ s)
signed-Splits y z r s e =
    let w = spellings (leb y) (leb z) r s (leb_is y).spelling (leb_is z).spelling e in
    (sym (leb_is y).value_is ∙ ap signed_value w.0 ∙ (leb_is z).value_is, w.1)

pub right : (a b c d e f g h r : List ℕ) → (a ++ (b ++ (c ++ (d ++ (e ++ (f ++ (g ++ h))))))) ++ r ≡ a ++ (b ++ (c ++ (d ++ (e ++ (f ++ (g ++ (h ++ r)))))))
right a b c d e f g h r = simp append_assoc

abbrev pub front_with : List Hash → List ℕ → ℕ → ℕ → ℤ → List ℕ → List (List ℕ) → List (ℕ × ℕ) → Front
front_with deps actor seq start time message others listed = record { deps = deps; actor = actor; seq = seq; start = start; time = time; message = message; others = others; listed = listed }

pub front-same : (f g : Front) → f.deps ≡ g.deps → f.actor ≡ g.actor → f.seq ≡ g.seq → f.start ≡ g.start → f.time ≡ g.time → f.message ≡ g.message → f.others ≡ g.others → f.listed ≡ g.listed → f ≡ g
front-same f g a b c d e h i j =
    ap (λ x. front_with x f.actor f.seq f.start f.time f.message f.others f.listed) a
    ∙ ap (λ x. front_with g.deps x f.seq f.start f.time f.message f.others f.listed) b
    ∙ ap (λ x. front_with g.deps g.actor x f.start f.time f.message f.others f.listed) c
    ∙ ap (λ x. front_with g.deps g.actor g.seq x f.time f.message f.others f.listed) d
    ∙ ap (λ x. front_with g.deps g.actor g.seq g.start x f.message f.others f.listed) e
    ∙ ap (λ x. front_with g.deps g.actor g.seq g.start g.time x f.others f.listed) h
    ∙ ap (λ x. front_with g.deps g.actor g.seq g.start g.time g.message x f.listed) i
    ∙ ap (λ x. front_with g.deps g.actor g.seq g.start g.time g.message g.others x) j

pub front-splits : (f g : Front) (r s : List ℕ) → AllByRecursion Has32 f.deps → AllByRecursion Has32 g.deps → front_bytes f ++ r ≡ front_bytes g ++ s → (f ≡ g) × (r ≡ s)
front-splits f g r s a b e =
    let r8 = metadata f.listed ++ r in
    let s8 = metadata g.listed ++ s in
    let r7 = actors_bytes f.others ++ r8 in
    let s7 = actors_bytes g.others ++ s8 in
    let r6 = prefixed f.message ++ r7 in
    let s6 = prefixed g.message ++ s7 in
    let r5 = leb f.time ++ r6 in
    let s5 = leb g.time ++ s6 in
    let r4 = uleb f.start ++ r5 in
    let s4 = uleb g.start ++ s5 in
    let r3 = uleb f.seq ++ r4 in
    let s3 = uleb g.seq ++ s4 in
    let r2 = prefixed f.actor ++ r3 in
    let s2 = prefixed g.actor ++ s3 in
    let whole : hashes_bytes f.deps ++ r2 ≡ hashes_bytes g.deps ++ s2 =
    sym (right (hashes_bytes f.deps) (prefixed f.actor) (uleb f.seq) (uleb f.start) (leb f.time) (prefixed f.message) (actors_bytes f.others) (metadata f.listed) r) ∙ e
    ∙ right (hashes_bytes g.deps) (prefixed g.actor) (uleb g.seq) (uleb g.start) (leb g.time) (prefixed g.message) (actors_bytes g.others) (metadata g.listed) s in
    let deps = hashes-split f.deps g.deps r2 s2 a b whole in
    let actor = prefixed-Splits f.actor g.actor r3 s3 deps.1 in
    let seq = number-Splits f.seq g.seq r4 s4 actor.1 in
    let start = number-Splits f.start g.start r5 s5 seq.1 in
    let time = signed-Splits f.time g.time r6 s6 start.1 in
    let message = prefixed-Splits f.message g.message r7 s7 time.1 in
    let named = counted-Splits prefixed prefixed-Splits f.others g.others r8 s8 message.1 in
    let listed = counted-Splits pair_bytes pair-Splits f.listed g.listed r s named.1 in
    (front-same f g deps.0 actor.0 seq.0 start.0 time.0 message.0 named.0 listed.0, listed.1)

-- what a reader of the parts has read

abbrev pub reading : ℕ → List ℕ → List ℕ → ℕ → ℕ → ℤ → List ℕ → List (List ℕ) → List (ℕ × ℕ) → Front
reading count hashes actor seq start time message others listed = front_with (hashes_in count hashes) actor seq start time message others listed

pub read_is : (bytes hashes actor message r0 r1 r2 r3 r4 : List ℕ) (count seq start : ℕ) (time again : ℤ) (others : List (List ℕ)) (listed : List (ℕ × ℕ)) → again ≡ time
    → bytes ≡ hashes_bytes (hashes_in count hashes) ++ r0 → length hashes ≡ 32 * count → count < 2 ^ 64
    → r0 ≡ prefixed actor ++ r1 → length actor < 2 ^ 64
    → r1 ≡ uleb seq ++ (uleb start ++ (leb time ++ r2)) → seq < 2 ^ 64 → start < 2 ^ 64 → FitsSigned w64 time
    → r2 ≡ prefixed message ++ r3 → length message < 2 ^ 64
    → r3 ≡ actors_bytes others ++ (metadata listed ++ r4) → AreActors others → AreListed listed
    → IsFront (reading count hashes actor seq start again message others listed) × (bytes ≡ front_bytes (reading count hashes actor seq start again message others listed) ++ r4)
read_is bytes hashes actor message r0 r1 r2 r3 r4 count seq start time again others listed back e0 size few e1 short e2 seq_fits start_fits time_fits e3 text e4 named pairs =
    let deps = hashes_bytes (hashes_in count hashes) in
    let P : ℤ → Type 0 = λ z. IsFront (reading count hashes actor seq start z message others listed) × (bytes ≡ front_bytes (reading count hashes actor seq start z message others listed) ++ r4) in
    let whole : bytes ≡ deps ++ (prefixed actor ++ (uleb seq ++ (uleb start ++ (leb time ++ (prefixed message ++ (actors_bytes others ++ (metadata listed ++ r4))))))) =
    e0 ∙ ap (λ z. deps ++ z) (e1 ∙ ap (λ z. prefixed actor ++ z) (e2 ∙ ap (λ z. uleb seq ++ (uleb start ++ (leb time ++ z))) (e3 ∙ ap (λ z. prefixed message ++ z) e4))) in
    subst P (sym back) (
      record {
        hashes = sized-hashes_in count hashes size;
        deps = subst (λ n. n < 2 ^ 64) (sym (length-hashes_in count hashes)) few;
        actor = short;
        seq = seq_fits;
        start = start_fits;
        time = time_fits;
        message = text;
        others = named;
        listed = pairs;
      },
      whole ∙ sym (right deps (prefixed actor) (uleb seq) (uleb start) (leb time) (prefixed message) (actors_bytes others) (metadata listed) r4),
    )

-- the parts of a front, from the left
pub from_left : (f : Front) (bytes rest : List ℕ) → bytes ≡ front_bytes f ++ rest
    → bytes ≡ hashes_bytes f.deps ++ (prefixed f.actor ++ (uleb f.seq ++ (uleb f.start ++ (leb f.time ++ (prefixed f.message ++ (actors_bytes f.others ++ (metadata f.listed ++ rest)))))))
from_left f bytes rest e = e ∙ right (hashes_bytes f.deps) (prefixed f.actor) (uleb f.seq) (uleb f.start) (leb f.time) (prefixed f.message) (actors_bytes f.others) (metadata f.listed) rest
