-- What the values of the code mean, in the words of the definitions.
use Rattle.std.specs.Prelude.{ℕ, Some, None, Option}
use Rattle.credential.specs.declared.limits.OutsideLimits.{OutsideLimits}
use Rattle.credential.specs.declared.protection.CredProtect.{CredProtect}
use Rattle.credential.specs.declared.protection.CredProtect.TheVariants.{UserVerificationOptional, UserVerificationOptionalWithCredentialIdList, UserVerificationRequired}
use Rattle.credential.specs.declared.record.Record.TheInside.{Inside}
use Rattle.credential.specs.declared.record.Fields.{Fields}
use Rattle.credential.specs.declared.slot.Slot.{Slot}
use Rattle.credential.specs.declared.slot.Slot.TheVariants as slots
use Rattle.credential.specs.Rec.{Rec}
use Rattle.credential.specs.Slot.{Content, empty, holds, put, gone}

-- the status number of a field outside its limits
abbrev pub code : OutsideLimits → ℕ
code refusal = 0x02

-- the number of a protection
abbrev pub protection : CredProtect → ℕ
protection UserVerificationOptional = 1
protection UserVerificationOptionalWithCredentialIdList = 2
protection UserVerificationRequired = 3

-- what a record holds, by the fields of the struct: everywhere else a record of the code is this
abbrev pub model : Inside → Rec
model r = record {
  rp_id = r.rp_id;
  user_id = r.user_id;
  name = r.name;
  display_name = r.display_name;
  credential_id = r.credential_id;
  x = r.x;
  y = r.y;
  cred_protect = protection r.cred_protect;
}

-- the record that fields ask for
abbrev pub given : Fields → Rec
given f = record {
  rp_id = f.rp_id.now;
  user_id = f.user_id.now;
  name = f.name.now;
  display_name = f.display_name.now;
  credential_id = f.credential_id.now;
  x = f.x.now;
  y = f.y.now;
  cred_protect = f.cred_protect;
}

-- what a slot was read as
abbrev pub told : Option Slot → Option Content
told None = None
told (Some slots.Free) = Some empty
told (Some (slots.Record r)) = Some (holds (put r))
told (Some (slots.Withdrawal p)) = Some (holds (gone p))

-- the record that a slot was read as
abbrev pub record_told : Option Rec → Option Content
record_told None = None
record_told (Some r) = Some (holds (put r))
