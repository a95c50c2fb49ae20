-- Copies of the columns hold the fields of the same rows, and so do the copies behind the first rows.
use Rattle.std.proofs.Common.{◌≡◌, ◌≤◌, ◌^◌, ℕ, List, length, drop, Option, Bool, sym, ◌∙◌}
use Rattle.am_types.specs.declared.OpId.{OpId}
use Rattle.am_types.specs.declared.ObjId.{ObjId}
use Rattle.am_types.specs.declared.Key.{Key}
use Rattle.am_types.specs.declared.RawValue.{RawValue}
use Rattle.am_types.specs.declared.Row.{Row}
use Rattle.am_fields.specs.Layout.{flat}
use Rattle.am_doccols.specs.Rows.{rows_from}
use Rattle.am_doccols.proofs.RowLaws.{HasFields}
use Rattle.am_doccols.proofs.RowsTaken.{fields_behind, still_even}

pub fields_again : (rows : List Row) (os os' : List ObjId) (ks ks' : List Key) (ds ds' : List OpId) (is is' : List Bool) (xs xs' : List ℕ) (vs vs' : List RawValue) (ss ss' : List (List OpId)) (es es' : List Bool) (ms ms' : List (Option (List ℕ)))
    → HasFields rows os ks ds is xs vs ss es ms
    → os' ≡ os → ks' ≡ ks → ds' ≡ ds → is' ≡ is → xs' ≡ xs → vs' ≡ vs → ss' ≡ ss → es' ≡ es → ms' ≡ ms
    → HasFields rows os' ks' ds' is' xs' vs' ss' es' ms'
fields_again rows os os' ks ks' ds ds' is is' xs xs' vs vs' ss ss' es es' ms ms' h o k d i x v s e m = record {
  objects = h.objects ∙ sym o;
  keys = h.keys ∙ sym k;
  ids = h.ids ∙ sym d;
  inserts = h.inserts ∙ sym i;
  actions = h.actions ∙ sym x;
  values = h.values ∙ sym v;
  succs = h.succs ∙ sym s;
  expands = h.expands ∙ sym e;
  marks = h.marks ∙ sym m;
}

pub rows_behind : (n : ℕ) (rows : List Row) (os os' : List ObjId) (ks ks' : List Key) (ds ds' : List OpId) (is is' : List Bool) (xs xs' : List ℕ) (vs vs' : List RawValue) (ss ss' : List (List OpId)) (es es' : List Bool) (ms ms' : List (Option (List ℕ)))
    → HasFields rows os ks ds is xs vs ss es ms
    → os' ≡ drop n os → ks' ≡ drop n ks → ds' ≡ drop n ds → is' ≡ drop n is → xs' ≡ drop n xs → vs' ≡ drop n vs → ss' ≡ drop n ss → es' ≡ drop n es → ms' ≡ drop n ms
    → rows_from os' ks' ds' is' xs' vs' ss' es' ms' ≡ drop n rows
rows_behind n rows os os' ks ks' ds ds' is is' xs xs' vs vs' ss ss' es es' ms ms' h o k d i x v s e m = rw (o, k, d, i, x, v, s, e, m) (fields_behind n rows os ks ds is xs vs ss es ms h)

pub even_behind : (n : ℕ) (os os' : List ObjId) (ks ks' : List Key) (ds ds' : List OpId) (is is' : List Bool) (xs xs' : List ℕ) (vs vs' : List RawValue) (ss ss' : List (List OpId)) (es es' : List Bool) (ms ms' : List (Option (List ℕ)))
    → length os ≡ length xs → length ks ≡ length xs → length ds ≡ length xs → length is ≡ length xs → length vs ≡ length xs → length ss ≡ length xs → length es ≡ length xs → length ms ≡ length xs → length (flat ss) ≤ 2 ^ 22
    → os' ≡ drop n os → ks' ≡ drop n ks → ds' ≡ drop n ds → is' ≡ drop n is → xs' ≡ drop n xs → vs' ≡ drop n vs → ss' ≡ drop n ss → es' ≡ drop n es → ms' ≡ drop n ms
    → (length os' ≡ length xs') × (length ks' ≡ length xs') × (length ds' ≡ length xs') × (length is' ≡ length xs') × (length vs' ≡ length xs') × (length ss' ≡ length xs') × (length es' ≡ length xs') × (length ms' ≡ length xs') × (length (flat ss') ≤ 2 ^ 22)
even_behind n os os' ks ks' ds ds' is is' xs xs' vs vs' ss ss' es es' ms ms' a b c f g p q r few o k d i x v s e m = rw (o, k, d, i, x, v, s, e, m) (still_even n os ks ds is xs vs ss es ms a b c f g p q r few)
