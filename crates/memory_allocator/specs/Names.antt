-- What a client's contracts cite, passed on from where it is defined. Assumes nothing.
pub use Rattle.pool_state.specs.Shown.{pool}
pub use Rattle.pool_state.specs.State.{state_of}
pub use Rattle.pool_state.specs.Sound.{book_of, SoundState}
pub use Rattle.check_state.specs.IsSound.{is_sound_lem}
pub use Rattle.calls.specs.Calls.{call_of, number_of, address_of}
pub use Rattle.core_serve.specs.Made.{made}
pub use Rattle.core_accounts.specs.Accounts.{total_of, Lists}
