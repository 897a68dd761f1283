-- The device of a key handle.
use Rattle.std.specs.Prelude.{Option, None, if◌then◌else◌, nat_eq}
use Rattle.hidlog_c.specs.{Key.DeviceState, declared.key.KeyHandle.KeyHandle}

-- The device of a key, or None if the key is not initialized.
abbrev pub device_of : KeyHandle → Option DeviceState
device_of k = if nat_eq k.state 1 then k.memory.device else None
