-- Change rows that are written one behind another.
use Rattle.std.proofs.Common.{◌≡◌, ℕ, ◌<◌, ◌^◌, List, [], ◌∷◌, ◌++◌, length, map, Option, Some, None, Bool, true, false, refl, sym, ap, ◌∙◌, arith, subst}
use Rattle.std.specs.Prelude.{ℤ, pos, IfSome, IfOk, Result, Ok, Err, unwrap_or}
use Rattle.std.specs.Option.{option_map}
use Rattle.std.specs.List.{AllByRecursion}
use Rattle.std.proofs.lemmas.List.{length-append, map-append}
use Rattle.am_types.specs.declared.Bytes.{Bytes}
use Rattle.am_types.specs.declared.Meta.{Meta}
use Rattle.am_types.specs.Documents.{unless_empty}
use Rattle.am_colmeta.specs.Metadata.{listing, not_empty, Ascend}
use Rattle.am_values.specs.Columns.{AllGood, joined}
use Rattle.am_delta.specs.Deltas.{AreMiddling}
use Rattle.am_fields.specs.Columns.{place_of, spellings}
use Rattle.am_fields.specs.Groups.{counts}
use Rattle.am_fields.specs.Extras.{extra_value, bytes_of}
use Rattle.am_fields.specs.Filling.{read_as}
use Rattle.am_fields.specs.Layout.{whole, flat}
use Rattle.am_doccols.specs.declared.meta_columns.MetaColumns.{MetaColumns}
use Rattle.am_doccols.specs.Columns.{meta_columns, written_metas}
use Rattle.am_doccols.specs.Metas.{metas_from}
use Rattle.am_doccols.specs.Conditions.{IsMetaFor, IsPlace, HasMetaRoom}
use Rattle.am_doccols.specs.Back.{held as list_of, actor_at, natural}
use Rattle.am_doccols.specs.MetaWriting.{metas_back, MetasHeld, metas_written, IsWritingMetas}
use Rattle.am_fields.proofs.Lists.{all-append}
use Rattle.am_fields.proofs.WriteLaws.{held, wrote, wrote_all, map-next, map2-next, flat-next}
use Rattle.am_fields.proofs.CanonicalLaws.{middling}
use Rattle.am_doccols.proofs.BackLaws.{actor_back, cons_same, counts_again, parts_again}

-- what was written comes back

actors_again : (actors : List (List ℕ)) (metas : List Meta) → AllByRecursion (IsMetaFor actors) metas
    → map (actor_at actors) (map (option_map (place_of actors)) (map Some (map (λ m. m.actor) metas))) ≡ map (λ m. m.actor) metas
actors_again actors [] all = refl
actors_again actors (m ∷ metas) all = cons_same _ _ _ _ (actor_back actors m.actor (all.0).actor) (actors_again actors metas all.1)

naturals_again : (ns : List ℕ) → map natural (map whole ns) ≡ ns
naturals_again [] = refl
naturals_again (n ∷ ns) = ap (λ zs. n ∷ zs) (naturals_again ns)

pub times_again : (ts : List ℤ) → read_as (pos 0) (map Some ts) ≡ ts
times_again [] = refl
times_again (t ∷ ts) = ap (λ zs. t ∷ zs) (times_again ts)

message_again : (text : List ℕ) → unwrap_or (unless_empty text) [] ≡ text
message_again [] = refl
message_again (b ∷ text) = refl

pub messages_again : (texts : List (List ℕ)) → read_as [] (map unless_empty texts) ≡ texts
messages_again [] = refl
messages_again (t ∷ texts) = cons_same _ _ _ _ (message_again t) (messages_again texts)

pub extras_again : (extras : List (List ℕ)) → bytes_of (map extra_value extras) ≡ extras
extras_again [] = refl
extras_again (x ∷ extras) = ap (λ zs. x ∷ zs) (extras_again extras)

meta_again : (metas : List Meta) → metas_from (map (λ m. m.actor) metas) (map (λ m. m.seq) metas) (map (λ m. m.max) metas) (map (λ m. m.time) metas) (map (λ m. m.message) metas) (map (λ m. m.deps) metas) (map (λ m. m.extra) metas) ≡ metas
meta_again [] = refl
meta_again (m ∷ metas) = ap (λ zs. m ∷ zs) (meta_again metas)

lists_again : (metas : List Meta) → {a : List (List ℕ)} {s : List ℕ} {x : List ℕ} {t : List ℤ} {m : List (List ℕ)} {d : List (List ℕ)} {e : List (List ℕ)}
    → a ≡ map (λ m. m.actor) metas → s ≡ map (λ m. m.seq) metas → x ≡ map (λ m. m.max) metas → t ≡ map (λ m. m.time) metas → m ≡ map (λ m. m.message) metas → d ≡ map (λ m. m.deps) metas → e ≡ map (λ m. m.extra) metas
    → metas_from a s x t m d e ≡ metas
lists_again metas e1 e2 e3 e4 e5 e6 e7 = rw (e1, e2, e3, e4, e5, e6, e7) (meta_again metas)

pub metas_again : (actors : List (List ℕ)) (metas : List Meta) (w : MetaColumns) → MetasHeld actors metas w → metas_back actors w ≡ metas
metas_again actors metas w h =
    let lengths : counts (list_of w.lengths) ≡ map length (map (λ m. m.deps) metas) = ap (λ x. counts (list_of x)) h.lengths_are ∙ counts_again (map length (map (λ m. m.deps) metas)) in
    let deps : map natural (list_of w.deps) ≡ flat (map (λ m. m.deps) metas) = ap (λ x. map natural (list_of x)) h.deps_are ∙ naturals_again (flat (map (λ m. m.deps) metas)) in
    lists_again metas
    (ap (λ x. map (actor_at actors) (list_of x)) h.actor_are ∙ actors_again actors metas h.all)
    (ap (λ x. map natural (list_of x)) h.seq_are ∙ naturals_again (map (λ m. m.seq) metas))
    (ap (λ x. map natural (list_of x)) h.max_are ∙ naturals_again (map (λ m. m.max) metas))
    (ap (λ x. read_as (pos 0) (list_of x)) h.time_are ∙ times_again (map (λ m. m.time) metas))
    (ap (λ x. read_as [] (list_of x)) h.message_are ∙ messages_again (map (λ m. m.message) metas))
    (rw (lengths, deps) (parts_again (map (λ m. m.deps) metas)))
    (ap (λ x. bytes_of (list_of x)) h.extra_are ∙ extras_again (map (λ m. m.extra) metas))

-- one more

-- what the parts of one push did, with these actors
pub record MetaSteps (actors : List (List ℕ)) (m : Meta) (w v : MetaColumns) : Type 0 where
  pub actor : IfSome w.actor (λ xs. v.actor ≡ Some (xs ++ Some (place_of actors m.actor) ∷ []))
  pub seq : IfSome w.seq (λ xs. v.seq ≡ Some (xs ++ whole m.seq ∷ []))
  pub max : IfSome w.max (λ xs. v.max ≡ Some (xs ++ whole m.max ∷ []))
  pub time : IfSome w.time (λ xs. v.time ≡ Some (xs ++ Some m.time ∷ []))
  pub message : IfSome w.message (λ xs. v.message ≡ Some (xs ++ unless_empty m.message ∷ []))
  pub lengths : IfSome w.lengths (λ xs. v.lengths ≡ Some (xs ++ Some (length m.deps) ∷ []))
  pub deps : IfSome w.deps (λ xs. v.deps ≡ Some (xs ++ map whole m.deps))
  pub extra : IfSome w.extra (λ xs. v.extra ≡ Some (xs ++ extra_value m.extra ∷ []))

meta_next : (actors : List (List ℕ)) (metas : List Meta) (m : Meta) (w v : MetaColumns)
    → MetasHeld actors metas w → MetaSteps actors m w v → IsMetaFor actors m → HasMetaRoom metas m.deps → MetasHeld actors (metas ++ m ∷ []) v
meta_next actors metas m w v h steps good room =
    let deps = flat-next (λ x. x.deps) metas m in
    let few = room.few in
    let few_deps = room.few_deps in
    record {
      actor_are = wrote _ _ _ _ _ _ h.actor_are steps.actor refl (ap (λ zs. map (option_map (place_of actors)) (map Some zs)) (map-next (λ m. m.actor) metas m) ∙ map2-next (option_map (place_of actors)) Some (map (λ m. m.actor) metas) m.actor);
      seq_are = wrote _ _ _ _ _ _ h.seq_are steps.seq refl (map2-next whole (λ m. m.seq) metas m);
      max_are = wrote _ _ _ _ _ _ h.max_are steps.max refl (map2-next whole (λ m. m.max) metas m);
      time_are = wrote _ _ _ _ _ _ h.time_are steps.time refl (map2-next Some (λ m. m.time) metas m);
      message_are = wrote _ _ _ _ _ _ h.message_are steps.message refl (map2-next unless_empty (λ m. m.message) metas m);
      lengths_are = wrote _ _ _ _ _ _ h.lengths_are steps.lengths refl (ap (λ zs. map Some (map length zs)) (map-next (λ x. x.deps) metas m) ∙ map2-next Some length (map (λ x. x.deps) metas) m.deps);
      deps_are = wrote_all _ _ _ _ _ _ h.deps_are steps.deps refl (ap (map whole) deps ∙ map-append whole (flat (map (λ x. x.deps) metas)) m.deps);
      extra_are = wrote _ _ _ _ _ _ h.extra_are steps.extra refl (map2-next extra_value (λ m. m.extra) metas m);
      all = all-append (IsMetaFor actors) metas (m ∷ []) h.all (good, tt);
      few = omega (arith, length-append metas (m ∷ []));
      few_deps = omega (arith, ap length deps, length-append (flat (map (λ x. x.deps) metas)) m.deps);
    }

metas_known : (failed : Bool) (actors : List (List ℕ)) (w : MetaColumns) (shown : Option (List Meta))
    → failed ≡ false → metas_written failed actors w ≡ shown → IsWritingMetas failed actors w
    → (metas : List Meta) × (shown ≡ Some metas) × MetasHeld actors metas w
metas_known true actors w shown e view inv = absurd (cc)
metas_known false actors w shown e view inv = (metas_back actors w, sym view, inv)

pub metas_pushed : (failed : Bool) (actors at : List (List ℕ)) (w v : MetaColumns) (shown : List (List ℕ) × Option (List Meta)) (m : Meta)
    → failed ≡ false → actors ≡ shown.0 → metas_written failed actors w ≡ shown.1 → IsWritingMetas failed actors w → at ≡ actors
    → IsMetaFor shown.0 m → IfSome shown.1 (λ metas. HasMetaRoom metas m.deps) → MetaSteps at m w v
    → IsWritingMetas false actors v × IfSome shown.1 (λ metas. Some (metas_back actors v) ≡ Some (metas ++ m ∷ []))
metas_pushed failed actors at w v shown m e names view inv at_is good room steps =
    let known = metas_known failed actors w shown.1 e view inv in
    let metas = known.0 in
    let P : List (List ℕ) → Type 0 = λ a. MetaSteps a m w v in
    let Q : List (List ℕ) → Type 0 = λ a. IsMetaFor a m in
    let next = meta_next actors metas m w v known.2 (subst P at_is steps) (subst Q (sym names) good) (given_room shown.1 metas m.deps known.1 room) in
    let back = metas_again actors (metas ++ m ∷ []) v next in
    let R : List Meta → Type 0 = λ zs. MetasHeld actors zs v in
    (subst R (sym back) next, held shown.1 metas (λ zs. Some (metas_back actors v) ≡ Some (zs ++ m ∷ [])) known.1 (ap Some back))
  where
    given_room : (shown : Option (List Meta)) (metas : List Meta) (more : List ℕ) → shown ≡ Some metas → IfSome shown (λ xs. HasMetaRoom xs more) → HasMetaRoom metas more
    given_room None metas more e room = absurd (cc)
    given_room (Some xs) metas more e room =
        let same : xs ≡ metas = cc in
        let S : List Meta → Type 0 = λ zs. HasMetaRoom zs more in
        subst S same room

pub metas_begun : (actors : List (List ℕ)) (w : MetaColumns)
    → w.actor ≡ Some [] → w.seq ≡ Some [] → w.max ≡ Some [] → w.time ≡ Some [] → w.message ≡ Some [] → w.lengths ≡ Some [] → w.deps ≡ Some [] → w.extra ≡ Some []
    → MetasHeld actors (metas_back actors w) w × (metas_back actors w ≡ [])
metas_begun actors w e1 e2 e3 e4 e5 e6 e7 e8 =
    let none : MetasHeld actors [] w = record { actor_are = e1; seq_are = e2; max_are = e3; time_are = e4; message_are = e5; lengths_are = e6; deps_are = e7; extra_are = e8; all = tt; few = omega arith; few_deps = omega arith } in
    let back = metas_again actors [] w none in
    let R : List Meta → Type 0 = λ zs. MetasHeld actors zs w in
    (subst R (sym back) none, back)

-- what was finished

pub seqs_middling : (actors : List (List ℕ)) (metas : List Meta) → AllByRecursion (IsMetaFor actors) metas → AreMiddling (map whole (map (λ m. m.seq) metas))
seqs_middling actors [] all = tt
seqs_middling actors (m ∷ metas) all = (middling m.seq (all.0).seq, seqs_middling actors metas all.1)

pub maxes_middling : (actors : List (List ℕ)) (metas : List Meta) → AllByRecursion (IsMetaFor actors) metas → AreMiddling (map whole (map (λ m. m.max) metas))
maxes_middling actors [] all = tt
maxes_middling actors (m ∷ metas) all = (middling m.max (all.0).max, maxes_middling actors metas all.1)

pub times_middling : (actors : List (List ℕ)) (metas : List Meta) → AllByRecursion (IsMetaFor actors) metas → AreMiddling (map Some (map (λ m. m.time) metas))
times_middling actors [] all = tt
times_middling actors (m ∷ metas) all = ((all.0).time, times_middling actors metas all.1)

places_middling : (places : List ℕ) → AllByRecursion IsPlace places → AreMiddling (map whole places)
places_middling [] all = tt
places_middling (p ∷ places) all = let small : p < 2 ^ 20 = all.0 in (middling p (omega arith), places_middling places all.1)

all_places : (actors : List (List ℕ)) (metas : List Meta) → AllByRecursion (IsMetaFor actors) metas → AllByRecursion IsPlace (flat (map (λ m. m.deps) metas))
all_places actors [] all = tt
all_places actors (m ∷ metas) all = all-append IsPlace m.deps (flat (map (λ m. m.deps) metas)) (all.0).deps (all_places actors metas all.1)

pub deps_middling : (actors : List (List ℕ)) (metas : List Meta) → AllByRecursion (IsMetaFor actors) metas → AreMiddling (map whole (flat (map (λ m. m.deps) metas)))
deps_middling actors metas all = places_middling (flat (map (λ m. m.deps) metas)) (all_places actors metas all)

pub extras_good : (actors : List (List ℕ)) (metas : List Meta) → AllByRecursion (IsMetaFor actors) metas → AllGood (map extra_value (map (λ m. m.extra) metas))
extras_good actors [] all = tt
extras_good actors (m ∷ metas) all = ((all.0).extra, extras_good actors metas all.1)

pub ascending : (actors : List (List ℕ)) (metas : List Meta) → Ascend (listing (spellings actors (meta_columns metas)))
ascending actors metas = (omega arith, (omega arith, (omega arith, (omega arith, (omega arith, (omega arith, (omega arith, (omega arith, tt))))))))

pub columns_ascend : (failed : Bool) (actors : List (List ℕ)) (w : MetaColumns) (columns at : List (ℕ × List ℕ))
    → failed ≡ false → IsWritingMetas failed actors w → ((a : List (List ℕ)) (metas : List Meta) → MetasHeld a metas w → columns ≡ spellings a (meta_columns metas)) → at ≡ columns
    → Ascend (listing at)
columns_ascend true actors w columns at e inv are at_is = absurd (cc)
columns_ascend false actors w columns at e inv are at_is =
    let metas = metas_back actors w in
    let P : List (ℕ × List ℕ) → Type 0 = λ zs. Ascend (listing zs) in
    subst P (sym (at_is ∙ are actors metas inv)) (ascending actors metas)

pub metas_finished : {E : Type 0} (part : Bytes × Bytes → List ℕ) (text : List (ℕ × List ℕ) → List ℕ) (failed : Bool) (actors : List (List ℕ)) (w : MetaColumns) (shown : List (List ℕ) × Option (List Meta)) (columns at : List (ℕ × List ℕ)) (result : Result (Bytes × Bytes) E)
    → failed ≡ false → actors ≡ shown.0 → metas_written failed actors w ≡ shown.1 → IsWritingMetas failed actors w
    → ((a : List (List ℕ)) (metas : List Meta) → MetasHeld a metas w → columns ≡ spellings a (meta_columns metas)) → at ≡ columns
    → IfOk result (λ t. part t ≡ text (not_empty at))
    → IfOk result (λ t. IfSome shown.1 (λ metas. part t ≡ text (written_metas shown.0 metas)))
metas_finished part text failed actors w shown columns at (Err e) had names view inv are at_is ok = tt
metas_finished part text failed actors w shown columns at (Ok t) had names view inv are at_is ok =
    let known = metas_known failed actors w shown.1 had view inv in
    let metas = known.0 in
    held shown.1 metas (λ zs. part t ≡ text (written_metas shown.0 zs)) known.1
    (ok ∙ ap (λ zs. text (not_empty zs)) (at_is ∙ are actors metas known.2) ∙ ap (λ a. text (written_metas a metas)) names)

-- the bytes of extra bytes, one behind another
pub joined-extras : (extras : List (List ℕ)) → joined (map extra_value extras) ≡ flat extras
joined-extras [] = refl
joined-extras (x ∷ extras) = ap (λ zs. x ++ zs) (joined-extras extras)
