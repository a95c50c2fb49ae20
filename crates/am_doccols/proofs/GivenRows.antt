-- Rows that are gathered: the fields that they leave to their columns, and the room that they take.
use Rattle.std.proofs.Common.{◌≡◌, ℕ, ◌+◌, ◌≤◌, ◌^◌, List, [], ◌∷◌, ◌++◌, length, map, take, drop, Option, Some, None, Bool, false, refl, sym, ap, ◌∙◌, arith, subst, take_all, length-drop, append_assoc}
use Rattle.std.specs.Prelude.{All, IfSome, option_map}
use Rattle.std.specs.List.{AllByRecursion}
use Rattle.std.proofs.lemmas.List.{length-append, length-map, length-take-le, map-append, take-append-drop, take-append-le, drop-append-le, append-nil}
use Rattle.std.proofs.lemmas.List.Elements.{All-from_recursion}
use Rattle.am_types.specs.declared.IdRef.{IdRef}
use Rattle.am_types.specs.declared.OpId.{OpId}
use Rattle.am_types.specs.declared.Row.{Row}
use Rattle.am_types.specs.Fine.{IsId, IsKey}
use Rattle.am_types.specs.Values.{Good}
use Rattle.am_types.specs.Rows.{row_of}
use Rattle.am_types.specs.Views.{id_of}
use Rattle.am_fields.specs.Columns.{place_of}
use Rattle.am_fields.specs.Layout.{flat, object_actor, object_counter, key_actor, key_counter, key_string, id_actor, id_counter}
use Rattle.am_fields.specs.Held.{FieldLists, FieldsHeld, IdsHeld}
use Rattle.am_fields.specs.declared.field_writer.FieldWriter.{FieldWriter}
use Rattle.am_fields.specs.declared.id_writer.IdWriter.{IdWriter}
use Rattle.am_fields.proofs.Lists.{all-append}
use Rattle.am_fields.proofs.Zips.{map-map}
use Rattle.am_fields.proofs.WriteLaws.{held, wrote_all, map2-append, flat-append, lists_same}
use Rattle.am_doccols.specs.declared.gathered.GatheredRow.{GatheredRow}
use Rattle.am_doccols.specs.Conditions.{IsIdFor, IsRowFor, HasRoom, succ_count}
use Rattle.am_doccols.specs.Front.{with_rows, Takes, AreOpenFor, HasRoomFor}
use Rattle.am_doccols.specs.Gathered.{operation_in, rows_given, total, with_gathered, AreGiven, rows_gathered, IsGatheringRows}
use Rattle.am_doccols.specs.Writing.{rows_written, IsWritingRows}
use Rattle.am_doccols.proofs.BackLaws.{cons_same, row_succs}
use Rattle.am_doccols.proofs.RowsWritten.{rows_known, lent_step, lent_within}
use Rattle.am_doccols.proofs.RowsTaken.{given_room, open_for}

-- ---- the fields of the rows

-- a field that isn't the successors
map_given : {A : Type 0} (f : Row → A) (k : GatheredRow → A) → ((g : GatheredRow) (ids : List OpId) → f (row_of ids (operation_in g)) ≡ k g) → (gs : List GatheredRow) (ids : List OpId) → map f (rows_given gs ids) ≡ map k gs
map_given f k e [] ids = refl
map_given f k e (g ∷ gs) ids = cons_same _ _ _ _ (e g (take g.succs ids)) (map_given f k e gs (drop g.succs ids))

pub length_given : (gs : List GatheredRow) (ids : List OpId) → length (rows_given gs ids) ≡ length gs
length_given [] ids = refl
length_given (g ∷ gs) ids = omega (arith, length_given gs (drop g.succs ids))

pub succs_given : (gs : List GatheredRow) (ids : List OpId) → total gs ≡ length ids → flat (map (λ (r : Row). r.succs) (rows_given gs ids)) ≡ ids
succs_given [] [] e = refl
succs_given [] (i ∷ ids) e = absurd (omega (arith, e))
succs_given (g ∷ gs) ids e =
    ap (λ zs. take g.succs ids ++ zs) (succs_given gs (drop g.succs ids) (omega (arith, e, length-drop g.succs ids)))
    ∙ take-append-drop g.succs ids

counts_given : (gs : List GatheredRow) (ids : List OpId) → total gs ≡ length ids → map length (map (λ (r : Row). r.succs) (rows_given gs ids)) ≡ map (λ (g : GatheredRow). g.succs) gs
counts_given [] ids e = refl
counts_given (g ∷ gs) ids e =
    cons_same _ _ _ _ (length-take-le g.succs ids (omega (arith, e))) (counts_given gs (drop g.succs ids) (omega (arith, e, length-drop g.succs ids)))

lists_given : (x : FieldLists) (gs : List GatheredRow) (ids : List OpId) → with_gathered x gs ≡ with_rows x (rows_given gs ids)
lists_given x gs ids =
    lists_same _ _ _ _ _ _ _ _ _ _ _ _ _ _
    (ap (λ l. x.objects ++ l) (sym (map_given (λ (r : Row). r.obj) (λ (g : GatheredRow). g.op.now.obj) (λ g zs. refl) gs ids)))
    (ap (λ l. x.keys ++ l) (sym (map_given (λ (r : Row). r.key) (λ (g : GatheredRow). g.op.now.key) (λ g zs. refl) gs ids)))
    (ap (λ l. x.inserts ++ l) (sym (map_given (λ (r : Row). r.insert) (λ (g : GatheredRow). g.op.now.insert) (λ g zs. refl) gs ids)))
    (ap (λ l. x.actions ++ l) (sym (map_given (λ (r : Row). r.action) (λ (g : GatheredRow). g.op.now.action) (λ g zs. refl) gs ids)))
    (ap (λ l. x.values ++ l) (sym (map_given (λ (r : Row). r.value) (λ (g : GatheredRow). g.op.now.value) (λ g zs. refl) gs ids)))
    (ap (λ l. x.expands ++ l) (sym (map_given (λ (r : Row). r.expand) (λ (g : GatheredRow). g.op.now.expand) (λ g zs. refl) gs ids)))
    (ap (λ l. x.marks ++ l) (sym (map_given (λ (r : Row). r.mark) (λ (g : GatheredRow). g.op.now.mark) (λ g zs. refl) gs ids)))

-- ---- what the steps of one write did

map3 : {X A B C : Type 0} (p : B → C) (k : A → B) (o : X → A) (xs : List X) → map p (map k (map o xs)) ≡ map (λ x. p (k (o x))) xs
map3 p k o xs = ap (map p) (map-map k o xs) ∙ map-map p (λ x. k (o x)) xs

one_more : {X A B : Type 0} (k : A → B) (o : X → A) (before : List A) (xs : List X) → map k (before ++ map o xs) ≡ map k before ++ map (λ x. k (o x)) xs
one_more k o before xs = map-append k before (map o xs) ∙ ap (λ zs. map k before ++ zs) (map-map k o xs)

two_more : {X A B C : Type 0} (p : B → C) (k : A → B) (o : X → A) (before : List A) (xs : List X) → map p (map k (before ++ map o xs)) ≡ map p (map k before) ++ map (λ x. p (k (o x))) xs
two_more p k o before xs = map2-append p k before (map o xs) ∙ ap (λ zs. map p (map k before) ++ zs) (map3 p k o xs)

pub record FieldSteps (actors : List (List ℕ)) (gs : List GatheredRow) (f f' : FieldWriter) : Type 0 where
  pub object_places : IfSome f.object_actor (λ xs. f'.object_actor ≡ Some (xs ++ map (λ (g : GatheredRow). option_map (place_of actors) (object_actor g.op.now.obj)) gs))
  pub object_counters : IfSome f.object_counter (λ xs. f'.object_counter ≡ Some (xs ++ map (λ (g : GatheredRow). object_counter g.op.now.obj) gs))
  pub key_places : IfSome f.key_actor (λ xs. f'.key_actor ≡ Some (xs ++ map (λ (g : GatheredRow). option_map (place_of actors) (key_actor g.op.now.key)) gs))
  pub key_counters : IfSome f.key_counter (λ xs. f'.key_counter ≡ Some (xs ++ map (λ (g : GatheredRow). key_counter g.op.now.key) gs))
  pub key_names : IfSome f.key_name (λ xs. f'.key_name ≡ Some (xs ++ map (λ (g : GatheredRow). key_string g.op.now.key) gs))
  pub inserts : IfSome f.insert (λ xs. f'.insert ≡ Some (xs ++ map (λ (g : GatheredRow). g.op.now.insert) gs))
  pub actions : IfSome f.action (λ xs. f'.action ≡ Some (xs ++ map (λ (g : GatheredRow). Some g.op.now.action) gs))
  pub values : IfSome f.value (λ xs. f'.value ≡ Some (xs ++ map (λ (g : GatheredRow). g.op.now.value) gs))
  pub expands : IfSome f.expand (λ xs. f'.expand ≡ Some (xs ++ map (λ (g : GatheredRow). g.op.now.expand) gs))
  pub marks : IfSome f.mark (λ xs. f'.mark ≡ Some (xs ++ map (λ (g : GatheredRow). g.op.now.mark) gs))

pub fields_given : (actors : List (List ℕ)) (gs : List GatheredRow) (f f' : FieldWriter) → FieldSteps actors gs f f' → (x : FieldLists) → FieldsHeld actors x f → FieldsHeld actors (with_gathered x gs) f'
fields_given actors gs f f' steps x h = record {
  object_actor = wrote_all _ _ _ _ _ _ h.object_actor steps.object_places refl (two_more (option_map (place_of actors)) object_actor (λ (g : GatheredRow). g.op.now.obj) x.objects gs);
  object_counter = wrote_all _ _ _ _ _ _ h.object_counter steps.object_counters refl (one_more object_counter (λ (g : GatheredRow). g.op.now.obj) x.objects gs);
  key_actor = wrote_all _ _ _ _ _ _ h.key_actor steps.key_places refl (two_more (option_map (place_of actors)) key_actor (λ (g : GatheredRow). g.op.now.key) x.keys gs);
  key_counter = wrote_all _ _ _ _ _ _ h.key_counter steps.key_counters refl (one_more key_counter (λ (g : GatheredRow). g.op.now.key) x.keys gs);
  key_name = wrote_all _ _ _ _ _ _ h.key_name steps.key_names refl (one_more key_string (λ (g : GatheredRow). g.op.now.key) x.keys gs);
  insert = wrote_all _ _ _ _ _ _ h.insert steps.inserts refl refl;
  action = wrote_all _ _ _ _ _ _ h.action steps.actions refl (one_more Some (λ (g : GatheredRow). g.op.now.action) x.actions gs);
  value = wrote_all _ _ _ _ _ _ h.value steps.values refl refl;
  expand = wrote_all _ _ _ _ _ _ h.expand steps.expands refl refl;
  mark = wrote_all _ _ _ _ _ _ h.mark steps.marks refl refl;
}

pub ids_given : (actors : List (List ℕ)) (gs : List GatheredRow) (i i' : IdWriter)
    → IfSome i.places (λ xs. i'.places ≡ Some (xs ++ map (λ (g : GatheredRow). Some (place_of actors g.id.actor.now)) gs))
    → IfSome i.counters (λ xs. i'.counters ≡ Some (xs ++ map (λ (g : GatheredRow). id_counter (id_of g.id)) gs))
    → (before : List OpId) → IdsHeld actors before i → IdsHeld actors (before ++ map (λ (g : GatheredRow). id_of g.id) gs) i'
ids_given actors gs i i' placed counted before h = record {
  places = wrote_all _ _ _ _ _ _ h.places placed refl (two_more (option_map (place_of actors)) id_actor (λ (g : GatheredRow). id_of g.id) before gs);
  counters = wrote_all _ _ _ _ _ _ h.counters counted refl (one_more id_counter (λ (g : GatheredRow). id_of g.id) before gs);
}

pub takes_given : (actors : List (List ℕ)) (gs : List GatheredRow) (added : List IdRef) (f : FieldWriter) (i : IdWriter) (l : Option (List (Option ℕ))) (s : IdWriter) (f' : FieldWriter) (i' : IdWriter) (l' : Option (List (Option ℕ))) (s' : IdWriter)
    → total gs ≡ length (map id_of added)
    → ((x : FieldLists) → FieldsHeld actors x f → FieldsHeld actors (with_gathered x gs) f')
    → ((before : List OpId) → IdsHeld actors before i → IdsHeld actors (before ++ map (λ (g : GatheredRow). id_of g.id) gs) i')
    → IfSome l (λ xs. l' ≡ Some (xs ++ map (λ (g : GatheredRow). Some g.succs) gs))
    → IfSome s.places (λ xs. s'.places ≡ Some (xs ++ map (option_map (place_of actors)) (map (λ (i : IdRef). id_actor (id_of i)) added)))
    → IfSome s.counters (λ xs. s'.counters ≡ Some (xs ++ map (λ (i : IdRef). id_counter (id_of i)) added))
    → Takes actors (rows_given gs (map id_of added)) f i l s f' i' l' s'
takes_given actors gs added f i l s f' i' l' s' count fields ids lengths placed counted =
    let succs = map id_of added in
    let rows = rows_given gs succs in
    record {
      fields_step = λ x h. subst (λ y. FieldsHeld actors y f') (lists_given x gs succs) (fields x h);
      ids_step = λ before h. subst (λ zs. IdsHeld actors (before ++ zs) i') (sym (map_given (λ (r : Row). r.id) (λ (g : GatheredRow). id_of g.id) (λ g zs. refl) gs succs)) (ids before h);
      lengths_step = subst (λ zs. IfSome l (λ xs. l' ≡ Some (xs ++ zs))) (sym (ap (map Some) (counts_given gs succs count) ∙ map-map Some (λ (g : GatheredRow). g.succs) gs)) lengths;
      succs_step = λ before h. subst (λ zs. IdsHeld actors (before ++ zs) s') (sym (succs_given gs succs count)) (lent_step actors s s' added placed counted before h);
    }

-- ---- what the rows ask

pub given_keys : (actors : List (List ℕ)) (gs : List GatheredRow) (ids : List OpId) → AllByRecursion (IsRowFor actors) (rows_given gs ids) → All (λ (g : GatheredRow). IsKey g.op.now.key) gs
given_keys actors gs ids all = All-from_recursion (λ (g : GatheredRow). IsKey g.op.now.key) gs (each gs ids all)
  where
    each : (gs : List GatheredRow) (ids : List OpId) → AllByRecursion (IsRowFor actors) (rows_given gs ids) → AllByRecursion (λ (g : GatheredRow). IsKey g.op.now.key) gs
    each [] ids all = tt
    each (g ∷ gs) ids all = ((all.0).key, each gs (drop g.succs ids) all.1)

pub given_values : (actors : List (List ℕ)) (gs : List GatheredRow) (ids : List OpId) → AllByRecursion (IsRowFor actors) (rows_given gs ids) → All (λ (g : GatheredRow). Good g.op.now.value) gs
given_values actors gs ids all = All-from_recursion (λ (g : GatheredRow). Good g.op.now.value) gs (each gs ids all)
  where
    each : (gs : List GatheredRow) (ids : List OpId) → AllByRecursion (IsRowFor actors) (rows_given gs ids) → AllByRecursion (λ (g : GatheredRow). Good g.op.now.value) gs
    each [] ids all = tt
    each (g ∷ gs) ids all = ((all.0).value, each gs (drop g.succs ids) all.1)

pub given_ids : (actors : List (List ℕ)) (gs : List GatheredRow) (ids : List OpId) → AllByRecursion (IsRowFor actors) (rows_given gs ids) → All (λ (g : GatheredRow). IsId (id_of g.id)) gs
given_ids actors gs ids all = All-from_recursion (λ (g : GatheredRow). IsId (id_of g.id)) gs (each gs ids all)
  where
    each : (gs : List GatheredRow) (ids : List OpId) → AllByRecursion (IsRowFor actors) (rows_given gs ids) → AllByRecursion (λ (g : GatheredRow). IsId (id_of g.id)) gs
    each [] ids all = tt
    each (g ∷ gs) ids all = (((all.0).id).within, each gs (drop g.succs ids) all.1)

-- the successors may be written
pub given_succs : (actors : List (List ℕ)) (gs : List GatheredRow) (added : List IdRef) → AreGiven actors gs (map id_of added) → All (λ (i : IdRef). IsId (id_of i)) added
given_succs actors gs added given =
    lent_within actors added (subst (AllByRecursion (IsIdFor actors)) (succs_given gs (map id_of added) given.count) (row_succs actors (rows_given gs (map id_of added)) given.all))

-- a writer with all memory has room for the rows
pub room_given : (failed : Bool) (actors : List (List ℕ)) (f : FieldWriter) (i : IdWriter) (l : Option (List (Option ℕ))) (s : IdWriter) (shown : Option (List Row)) (gs : List GatheredRow) (added : List IdRef)
    → failed ≡ false → rows_written failed actors f i l s ≡ shown → IsWritingRows failed actors f i l s → total gs ≡ length (map id_of added) → IfSome shown (λ rows. HasRoomFor rows (rows_given gs (map id_of added)))
    → AreOpenFor (length gs) (length added) f i l s
room_given failed actors f i l s shown gs added e view inv count room =
    let known = rows_known failed actors f i l s shown e view inv in
    let given : HasRoomFor known.0 (rows_given gs (map id_of added)) = given_room shown known.0 (rows_given gs (map id_of added)) known.1 room in
    let few : length known.0 + length gs ≤ 2 ^ 22 = omega (arith, given.few, length_given gs (map id_of added)) in
    let few_succs : succ_count known.0 + length added ≤ 2 ^ 22 = omega (arith, given.few_succs, ap length (succs_given gs (map id_of added) count), length-map added id_of) in
    open_for actors known.0 (length gs) (length added) f i l s known.2 few few_succs

-- ---- gathering

given_next : (gs : List GatheredRow) (ids more : List OpId) (g : GatheredRow) → total gs ≡ length ids → g.succs ≡ length more → rows_given (gs ++ g ∷ []) (ids ++ more) ≡ rows_given gs ids ++ row_of more (operation_in g) ∷ []
given_next [] [] more g e n = ap (λ zs. row_of zs (operation_in g) ∷ []) (take_all g.succs more (omega (arith, n)))
given_next [] (i ∷ ids) more g e n = absurd (omega (arith, e))
given_next (h ∷ gs) ids more g e n =
    let within : h.succs ≤ length ids = omega (arith, e) in
    cons_same _ _ _ _ (ap (λ zs. row_of zs (operation_in h)) (take-append-le h.succs ids more within))
    (ap (rows_given (gs ++ g ∷ [])) (drop-append-le h.succs ids more within) ∙ given_next gs (drop h.succs ids) more g (omega (arith, e, length-drop h.succs ids)) n)

total_next : (gs : List GatheredRow) (g : GatheredRow) → total (gs ++ g ∷ []) ≡ total gs + g.succs
total_next [] g = omega arith
total_next (h ∷ gs) g = omega (arith, total_next gs g)

pub none_written : (rows : List Row) → None ≡ Some rows → ⊥
none_written rows e = absurd (cc)

pub same_rows : (xs ys : List Row) → Some xs ≡ Some ys → ys ≡ xs
same_rows xs ys e = cc

pub succs_of : (xs ys : List Row) → succ_count (xs ++ ys) ≡ succ_count xs + succ_count ys
succs_of xs ys =
    ap (λ zs. length (flat zs)) (map-append (λ (r : Row). r.succs) xs ys) ∙ ap length (flat-append (map (λ (r : Row). r.succs) xs) (map (λ (r : Row). r.succs) ys))
    ∙ length-append (flat (map (λ (r : Row). r.succs) xs)) (flat (map (λ (r : Row). r.succs) ys))

succs_one : (r : Row) → succ_count (r ∷ []) ≡ length r.succs
succs_one r = ap length (append-nil r.succs)

-- room for one row is room for a list of it
pub room_for_one : (shown : Option (List Row)) (r : Row) → IfSome shown (λ rows. HasRoom rows r.succs) → IfSome shown (λ rows. HasRoomFor rows (r ∷ []))
room_for_one None r room = tt
room_for_one (Some rows) r room = record {
  few = omega (arith, room.few);
  few_succs = omega (arith, room.few_succs, succs_one r);
}

room_in : (shown : Option (List Row)) (zs : List Row) (news : List OpId) → shown ≡ Some zs → IfSome shown (λ rows. HasRoom rows news) → HasRoom zs news
room_in None zs news e room = absurd (cc)
room_in (Some xs) zs news e room =
    let same : xs ≡ zs = cc in
    subst (λ (l : List Row). HasRoom l news) same room

-- the rows that are gathered, with one more
pub gathers_more : (actors : List (List ℕ)) (written shown : Option (List Row)) (gs : List GatheredRow) (ss more : List IdRef) (g : GatheredRow)
    → IsGatheringRows actors written gs ss → g.succs ≡ length more → rows_gathered false written gs ss ≡ shown
    → IsRowFor actors (row_of (map id_of more) (operation_in g)) → IfSome shown (λ rows. HasRoom rows (map id_of more))
    → IsGatheringRows actors written (gs ++ g ∷ []) (ss ++ more) × IfSome shown (λ rows. rows_gathered false written (gs ++ g ∷ []) (ss ++ more) ≡ Some (rows ++ row_of (map id_of more) (operation_in g) ∷ []))
gathers_more actors None shown gs ss more g h n view good room = absurd (none_written h.rows h.are_written)
gathers_more actors (Some rows) shown gs ss more g h n view good room =
    let ids = map id_of ss in
    let news = map id_of more in
    let before = rows_given gs ids in
    let row = row_of news (operation_in g) in
    let all : map id_of (ss ++ more) ≡ ids ++ news = map-append id_of ss more in
    let next : rows_given (gs ++ g ∷ []) (map id_of (ss ++ more)) ≡ before ++ row ∷ [] = ap (rows_given (gs ++ g ∷ [])) all ∙ given_next gs ids news g (h.given).count (n ∙ sym (length-map more id_of)) in
    let here : HasRoom (rows ++ before) news = room_in shown (rows ++ before) news (sym view) room in (
      record {
        rows = rows;
        are_written = refl;
        given = record {
          count = omega (arith, total_next gs g, (h.given).count, n, ap length all, length-append ids news, length-map more id_of);
          all = subst (AllByRecursion (IsRowFor actors)) (sym next) (all-append (IsRowFor actors) before (row ∷ []) (h.given).all (good, tt));
        };
        room = subst (HasRoomFor rows) (sym next) (record {
          few = omega (arith, here.few, length-append rows before, length-append before (row ∷ []));
          few_succs = omega (arith, here.few_succs, succs_of rows before, succs_of before (row ∷ []), succs_one row);
        });
      },
      held shown (rows ++ before) (λ zs. Some (rows ++ rows_given (gs ++ g ∷ []) (map id_of (ss ++ more))) ≡ Some (zs ++ row ∷ [])) (sym view)
          (ap Some (ap (λ zs. rows ++ zs) next ∙ sym (append_assoc rows before (row ∷ [])))),
    )

-- the rows that are gathered are written
pub gathers_none : (actors actors' : List (List ℕ)) (written written' : Option (List Row)) (gs gs' : List GatheredRow) (ss ss' : List IdRef)
    → IsGatheringRows actors written gs ss → actors' ≡ actors
    → IfSome written (λ rows. written' ≡ Some (rows ++ rows_given gs (map id_of ss))) → gs' ≡ [] → ss' ≡ []
    → IsGatheringRows actors' written' gs' ss' × (written' ≡ rows_gathered false written gs ss)
gathers_none actors actors' None written' gs gs' ss ss' h same step no_rows no_ids = absurd (none_written h.rows h.are_written)
gathers_none actors actors' (Some rows) written' gs gs' ss ss' h same step no_rows no_ids =
    let before = rows_given gs (map id_of ss) in
    let mine : HasRoomFor rows before = subst (λ zs. HasRoomFor zs before) (same_rows rows h.rows h.are_written) h.room in
    let all : List Row = rows ++ before in
    let none : IsGatheringRows actors' written' [] [] = record {
      rows = all;
      are_written = step;
      given = record { count = refl; all = tt };
      room = record {
        few = omega (arith, mine.few, length-append rows before);
        few_succs = omega (arith, mine.few_succs, succs_of rows before);
      };
    } in
    (subst (λ zs. IsGatheringRows actors' written' gs' zs) (sym no_ids) (subst (λ zs. IsGatheringRows actors' written' zs []) (sym no_rows) none), step)
