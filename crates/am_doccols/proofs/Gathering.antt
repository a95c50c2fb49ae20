-- A writer that gathers rows.
use Rattle.std.proofs.Common.{◌≡◌, ℕ, List, [], ◌∷◌, ◌++◌, length, map, Option, Some, None, Bool, true, false, refl, sym, ap, ◌∙◌, arith, subst}
use Rattle.std.specs.Prelude.{IfSome, IfNone, IfOk, OnOk, OnErr, IsErr, Result, Ok, Err}
use Rattle.std.proofs.lemmas.List.{append-nil, length-append}
use Rattle.am_types.specs.declared.Bytes.{Bytes}
use Rattle.am_types.specs.declared.IdRef.{IdRef}
use Rattle.am_types.specs.declared.OpId.{OpId}
use Rattle.am_types.specs.declared.Row.{Row}
use Rattle.am_types.specs.Rows.{row_of}
use Rattle.am_types.specs.Views.{id_of}
use Rattle.am_doccols.specs.declared.gathered.GatheredRow.{GatheredRow}
use Rattle.am_doccols.specs.Columns.{written_rows}
use Rattle.am_doccols.specs.Conditions.{IsRowFor, HasRoom}
use Rattle.am_doccols.specs.Front.{HasRoomFor}
use Rattle.am_doccols.specs.Gathered.{operation_in, rows_gathered, IsGatheringRows, IsGathering}
use Rattle.am_doccols.proofs.GivenRows.{gathers_more, none_written, succs_of}

-- what holds of rows and successors holds of slices of them
pub of_slices : (P : List GatheredRow → List IdRef → Type 0) (gs gs' : List GatheredRow) (ss ss' : List IdRef) → gs' ≡ gs → ss' ≡ ss → P gs ss → P gs' ss'
of_slices P gs gs' ss ss' a b h = subst (λ ys. P gs' ys) (sym b) (subst (λ xs. P xs ss) (sym a) h)

-- memory is had
pub going : (failed : Bool) (actors : List (List ℕ)) (w : Option (List Row)) (gs : List GatheredRow) (ss : List IdRef) → failed ≡ false → IsGathering failed actors w gs ss → IsGatheringRows actors w gs ss
going true actors w gs ss e h = absurd (cc)
going false actors w gs ss e h = h

pub shown_is : (failed : Bool) (w shown : Option (List Row)) (gs : List GatheredRow) (ss : List IdRef) → failed ≡ false → rows_gathered failed w gs ss ≡ shown → rows_gathered false w gs ss ≡ shown
shown_is true w shown gs ss e h = absurd (cc)
shown_is false w shown gs ss e h = h

pub not_none : (failed : Bool) (actors : List (List ℕ)) (w shown : Option (List Row)) (gs : List GatheredRow) (ss : List IdRef) (P : Type 0) → failed ≡ false → IsGathering failed actors w gs ss → rows_gathered failed w gs ss ≡ shown → IfNone shown P
not_none true actors w shown gs ss P e h view = absurd (cc)
not_none false actors None shown gs ss P e h view = absurd (none_written h.rows h.are_written)
not_none false actors (Some rows) None gs ss P e h view = absurd (cc)
not_none false actors (Some rows) (Some all) gs ss P e h view = tt

pub pushed_lent : (failed : Bool) (actors actors' : List (List ℕ)) (w w' shown : Option (List Row)) (gs gs' gs'' : List GatheredRow) (ss ss' ss'' more : List IdRef) (g : GatheredRow)
    → failed ≡ false → rows_gathered failed w gs ss ≡ shown → IsGatheringRows actors' w' gs' ss' → actors' ≡ actors
    → rows_gathered false w' gs' ss' ≡ rows_gathered false w gs ss → gs'' ≡ gs' ++ g ∷ [] → ss'' ≡ ss' ++ more → g.succs ≡ length more
    → IsRowFor actors (row_of (map id_of more) (operation_in g)) → IfSome shown (λ rows. HasRoom rows (map id_of more))
    → IsGatheringRows actors' w' gs'' ss'' × IfSome shown (λ rows. rows_gathered false w' gs'' ss'' ≡ Some (rows ++ row_of (map id_of more) (operation_in g) ∷ []))
pushed_lent failed actors actors' w w' shown gs gs' gs'' ss ss' ss'' more g e view h names same rows_are ids_are n good room =
    let all = gathers_more actors' w' shown gs' ss' more g h n (same ∙ shown_is failed w shown gs ss e view) (subst (λ a. IsRowFor a (row_of (map id_of more) (operation_in g))) (sym names) good) room in
    let P : List GatheredRow → List IdRef → Type 0 = λ xs ys. IsGatheringRows actors' w' xs ys × IfSome shown (λ rows. rows_gathered false w' xs ys ≡ Some (rows ++ row_of (map id_of more) (operation_in g) ∷ [])) in
    subst (P gs'') (sym ids_are) (subst (λ xs. P xs (ss' ++ more)) (sym rows_are) all)

-- rows are taken behind those that were written
pub took_rows : (failed : Bool) (actors actors' : List (List ℕ)) (w w' w'' shown : Option (List Row)) (gs gs' : List GatheredRow) (ss ss' : List IdRef) (more : List Row)
    → failed ≡ false → rows_gathered failed w gs ss ≡ shown → w' ≡ rows_gathered false w gs ss → IsGatheringRows actors w' gs' ss' → gs' ≡ [] → ss' ≡ []
    → IfSome w' (λ rows. HasRoomFor rows more) → IfSome w' (λ rows. w'' ≡ Some (rows ++ more))
    → IsGatheringRows actors' w'' gs' ss' × IfSome shown (λ rows. rows_gathered false w'' gs' ss' ≡ Some (rows ++ more))
took_rows failed actors actors' w None w'' shown gs gs' ss ss' more e view same h no_rows no_ids room step = absurd (none_written h.rows h.are_written)
took_rows failed actors actors' w (Some rows) w'' shown gs gs' ss ss' more e view same h no_rows no_ids room step =
    let given : HasRoomFor rows more = room in
    let none : IsGatheringRows actors' w'' [] [] = record {
      rows = rows ++ more;
      are_written = step;
      given = record { count = refl; all = tt };
      room = record {
        few = omega (arith, given.few, length-append rows more);
        few_succs = omega (arith, given.few_succs, succs_of rows more);
      };
    } in
    let all : Some rows ≡ shown = same ∙ shown_is failed w shown gs ss e view in
    let after : rows_gathered false w'' [] [] ≡ Some (rows ++ more) = ap (λ v. rows_gathered false v [] []) step ∙ ap Some (append-nil (rows ++ more)) in
    let P : List GatheredRow → List IdRef → Type 0 = λ xs ys. IsGatheringRows actors' w'' xs ys × IfSome shown (λ zs. rows_gathered false w'' xs ys ≡ Some (zs ++ more)) in
    subst (P gs') (sym no_ids) (subst (λ xs. P xs []) (sym no_rows) (none, subst (λ v. IfSome v (λ zs. rows_gathered false w'' [] [] ≡ Some (zs ++ more))) all after))

-- room for the rows that are taken
pub room_behind : (failed : Bool) (w w' shown : Option (List Row)) (gs : List GatheredRow) (ss : List IdRef) (more : List Row) → failed ≡ false → rows_gathered failed w gs ss ≡ shown → w' ≡ rows_gathered false w gs ss
    → IfSome shown (λ rows. HasRoomFor rows more) → IfSome w' (λ rows. HasRoomFor rows more)
room_behind failed w w' shown gs ss more e view same room = subst (λ v. IfSome v (λ rows. HasRoomFor rows more)) (sym (same ∙ shown_is failed w shown gs ss e view)) room

-- and for one row
pub room_behind_one : (failed : Bool) (w w' shown : Option (List Row)) (gs : List GatheredRow) (ss : List IdRef) (ids : List OpId) → failed ≡ false → rows_gathered failed w gs ss ≡ shown → w' ≡ rows_gathered false w gs ss
    → IfSome shown (λ rows. HasRoom rows ids) → IfSome w' (λ rows. HasRoom rows ids)
room_behind_one failed w w' shown gs ss ids e view same room = subst (λ v. IfSome v (λ rows. HasRoom rows ids)) (sym (same ∙ shown_is failed w shown gs ss e view)) room

-- what is finished is what was gathered, or memory was wanted
pub gathered_text : {A E F : Type 0} (part : Bytes × Bytes → List ℕ) (text : List (ℕ × List ℕ) → List ℕ) (r : Result A E) (result : Result (Bytes × Bytes) F) (actors actors' : List (List ℕ)) (w shown : Option (List Row))
    → OnOk r (w ≡ shown) → OnErr r (w ≡ None) → actors ≡ actors' → IfNone w (IsErr result)
    → IfOk result (λ t. IfSome w (λ rows. part t ≡ text (written_rows actors rows)))
    → IfOk result (λ t. IfSome shown (λ rows. part t ≡ text (written_rows actors' rows)))
gathered_text part text r (Err f) actors actors' w shown ok err names failed finished = tt
gathered_text part text (Ok x) (Ok t) actors actors' w shown ok err names failed finished =
    subst (λ a. IfSome shown (λ rows. part t ≡ text (written_rows a rows))) names (subst (λ v. IfSome v (λ rows. part t ≡ text (written_rows actors rows))) ok finished)
gathered_text part text (Err e) (Ok t) actors actors' w shown ok err names failed finished = (let no : false ≡ true = subst (λ v. IfNone v (false ≡ true)) err failed in absurd (cc))

pub gathers_start : (actors : List (List ℕ)) (w : Option (List Row)) (gs : List GatheredRow) (ss : List IdRef) → w ≡ Some [] → gs ≡ [] → ss ≡ [] → IsGatheringRows actors w gs ss × (rows_gathered false w gs ss ≡ Some [])
gathers_start actors w gs ss e no_rows no_ids =
    let none : IsGatheringRows actors w [] [] = record {
      rows = [];
      are_written = e;
      given = record { count = refl; all = tt };
      room = record { few = omega arith; few_succs = omega arith };
    } in
    let P : List GatheredRow → List IdRef → Type 0 = λ xs ys. IsGatheringRows actors w xs ys × (rows_gathered false w xs ys ≡ Some []) in
    subst (P gs) (sym no_ids) (subst (λ xs. P xs []) (sym no_rows) (none, ap (λ v. rows_gathered false v [] []) e))
