-- A file is read chunk by chunk.
use Rattle.std.proofs.lemmas.Grind.{flat_map-append}
use Rattle.std.proofs.Common.{ℕ, arith, ◌≡◌, ◌<◌, ◌+◌, List, [], ◌∷◌, ◌++◌, length, flat_map, Bool, All, refl, sym, ap, ◌∙◌, subst}
use Rattle.std.specs.List.{AllZip}
use Rattle.std.proofs.lemmas.List.{map-append, append_assoc, append-nil, length-append}
use Rattle.std.proofs.lemmas.List.Elements.{All-nil, All-push, All-append}
use Rattle.am_types.specs.declared.Hash.{Hash}
use Rattle.am_types.specs.declared.Change.{Change}
use Rattle.am_types.specs.Deliver.{MayCome}
use Rattle.am_frame.specs.Frames.{IsChunk, chunk_bytes}
use Rattle.am_change.specs.Hashes.{with_hash, with_hashes}
use Rattle.am_delivery.specs.Waiting.{member_of, members_of}
use Rattle.am_rebuild.specs.Documents.{changes_of, AreOwn}
use Rattle.am_store.specs.declared.fault.LoadFault.{LoadFault}
use Rattle.am_store.specs.declared.fault.LoadError.{LoadError}
use Rattle.am_store.specs.declared.fault.ReadFault.{ReadFault}
use Rattle.am_store.specs.declared.fault.ReadFault.TheVariants as read_fault
use Rattle.am_store.specs.Whole.{MatchLoad}
use Rattle.am_store.specs.Files.{Holds, HasFault, FirstBad}
use Rattle.am_store.specs.Reading.{GivesPairs, Appends, ReadsOne, HasRead}

abbrev Pairs : Type 0
Pairs = List (Hash × Change)

pub zip_push : {A B : Type 0} (R : A → B → Type 0) (xs : List A) (ys : List B) (x : A) (y : B) → AllZip R xs ys → R x y → AllZip R (xs ++ x ∷ []) (ys ++ y ∷ [])
zip_push R [] [] x y z r = (r, tt)
zip_push R [] (w ∷ ys) x y z r = absurd z
zip_push R (v ∷ xs) [] x y z r = absurd z
zip_push R (v ∷ xs) (w ∷ ys) x y z r = (z.0, zip_push R xs ys x y z.1 r)

pub nothing_read : (only : Bool) (bytes : List ℕ) → HasRead only bytes bytes [] 1
nothing_read only bytes = record { chunks = []; lists = []; bytes_are = refl; each = All-nil IsChunk; hold = tt; are = refl; own_hashes = refl; may_come = All-nil MayCome; number = refl }

flat_more : {A B : Type 0} (f : A → List B) (xs : List A) (x : A) → flat_map f (xs ++ x ∷ []) ≡ flat_map f xs ++ f x
flat_more f xs x = flat_map-append f xs (x ∷ []) ∙ ap (λ b. flat_map f xs ++ b) (append-nil (f x))

own_both : (xs ys : Pairs) → AreOwn xs → AreOwn ys → AreOwn (xs ++ ys)
own_both xs ys a b =
    map-append member_of xs ys
    ∙ (λ i. a i ++ b i)
    ∙ sym (map-append with_hash (changes_of xs) (changes_of ys))
    ∙ ap with_hashes (sym (map-append (λ (p : Hash × Change). p.1) xs ys))

pub read_more : (only : Bool) (bytes mid rest : List ℕ) (old new : Pairs) (k n : ℕ) → HasRead only bytes mid old k → ReadsOne mid rest (λ chunk. Appends (GivesPairs only chunk) old new) → n ≡ k + 1 → HasRead only bytes rest new n
read_more only bytes mid rest old new k n r one next =
    let more : Pairs = one.has.0 in
    let gives : GivesPairs only one.chunk more = one.has.2 in
    subst (λ ps. HasRead only bytes rest ps n) (sym one.has.1)
    (record {
      chunks = r.chunks ++ one.chunk ∷ [];
      lists = r.lists ++ changes_of more ∷ [];
      bytes_are =
          r.bytes_are
          ∙ ap (λ b. flat_map chunk_bytes r.chunks ++ b) one.bytes_are
          ∙ sym (append_assoc (flat_map chunk_bytes r.chunks) (chunk_bytes one.chunk) rest)
          ∙ ap (λ b. b ++ rest) (sym (flat_more chunk_bytes r.chunks one.chunk));
      each = All-push IsChunk r.chunks one.chunk r.each one.is_chunk;
      hold = zip_push (Holds only) r.chunks r.lists one.chunk (changes_of more) r.hold gives.holds;
      are =
          map-append (λ (p : Hash × Change). p.1) old more
          ∙ ap (λ cs. cs ++ changes_of more) r.are
          ∙ sym (flat_more (λ l. l) r.lists (changes_of more));
      own_hashes = own_both old more r.own_hashes gives.own_hashes;
      may_come = subst (All MayCome) (sym (map-append member_of old more)) (All-append MayCome (members_of old) (members_of more) r.may_come gives.may_come);
      number = let a = r.number in let b = length-append r.chunks (one.chunk ∷ []) in omega (arith, next);
    })

pub first_bad : (only : Bool) (bytes rest : List ℕ) (pairs : Pairs) (k : ℕ) (fault : LoadFault) → HasRead only bytes rest pairs k → 0 < length rest → HasFault only rest fault → FirstBad only bytes k fault
first_bad only bytes rest pairs k fault r more bad = record {
  before = r.chunks;
  lists = r.lists;
  rest = rest;
  bytes_are = r.bytes_are;
  each = r.each;
  hold = r.hold;
  more = more;
  bad = bad;
  number = r.number;
}

pub match_weaker : (fault : ReadFault) (P Q : LoadError → Type 0) → ((e : LoadError) → P e → Q e) → MatchLoad fault P → MatchLoad fault Q
match_weaker (read_fault.Load e) P Q f p = f e p
match_weaker read_fault.NoMemory P Q f p = tt
