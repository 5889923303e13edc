-- What holds of the store and of the open transactions over every device.
pub use Rattle.wtf_clients.specs.Sounds.{owned, all_owned, IsOpen, all_kept, AreSound, Sets, IsAlike, IsTidied}
