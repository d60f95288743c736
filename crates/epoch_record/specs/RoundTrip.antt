-- Encoding and decoding undo each other, over all epochs and over all bytes. This project's own.
use Rattle.std.specs.Prelude.{◌≡◌, ℕ, List, Option, Some}
use Rattle.dp_base.specs.Encoding.{whole}
use Rattle.dp_base.specs.Field.{AreBytes}
use Rattle.dp_base.specs.Journal.{IsEpoch, epoch_body, epoch_body_at}
use Rattle.dp_base.specs.Journal as journals
use Rattle.epoch_record.specs.declared.epoch.Epoch.{Epoch}
use Rattle.epoch_record.specs.Epoch.{epoch_of}

-- what `encode` gives
abbrev pub encoded_epoch : Epoch → List ℕ
encoded_epoch e = epoch_body (epoch_of e)

-- what `decode` finds
abbrev pub decoded_epoch : List ℕ → Option journals.Epoch
decoded_epoch bytes = whole epoch_body_at bytes

abbrev pub EveryEpochComesBack : Type 0
EveryEpochComesBack = (e : Epoch) → IsEpoch (epoch_of e) → decoded_epoch (encoded_epoch e) ≡ Some (epoch_of e)

abbrev pub EveryBodyComesBack : Type 0
EveryBodyComesBack = (bytes : List ℕ) (e : Epoch) → AreBytes bytes → decoded_epoch bytes ≡ Some (epoch_of e) → (encoded_epoch e ≡ bytes) × IsEpoch (epoch_of e)
