-- What is fine has actors that aren't too long.
use Rattle.am_types.specs.declared.OpId.{OpId}
use Rattle.am_types.specs.declared.ObjId.{ObjId}
use Rattle.am_types.specs.declared.ObjId.TheVariants.{Root, Made}
use Rattle.am_types.specs.declared.Key.{Key}
use Rattle.am_types.specs.declared.Key.TheVariants.{Name, Head, Elem}
use Rattle.am_types.specs.Fine.{IsId, IsObject, IsKey}
use Rattle.am_fields.specs.Limits.{IsShortActor}
use Rattle.am_rebuild.specs.Copied.{IsObjectShort, IsKeyShort}

pub short_id : (i : OpId) → IsId i → IsShortActor i.actor
short_id i id = (id.actor.some, id.actor.few)

pub short_object : (o : ObjId) → IsObject o → IsObjectShort o
short_object Root o = tt
short_object (Made i) o = short_id i o

pub short_key : (k : Key) → IsKey k → IsKeyShort k
short_key (Name n) k = tt
short_key Head k = tt
short_key (Elem i) k = short_id i k
