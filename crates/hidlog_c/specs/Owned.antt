-- The contents of the caller's memory.
use Rattle.std.specs.{Borrow.Fml, Borrow.full_share, Ptr.lies_at, Ptr.room_at}
use Rattle.std.specs.Prelude.{Option, Some, None}
use denote.RawPtr.{Ptr}
use Rattle.hidlog_c.specs.{contracts.device.Device.the_row as device_row, Key.DeviceState}

-- The memory at this address contains the device. For None, the memory is unused and large enough for a device.
abbrev pub holds : Ptr → Option DeviceState → Fml
holds p None = room_at device_row p
holds p (Some d) = lies_at device_row full_share p d
